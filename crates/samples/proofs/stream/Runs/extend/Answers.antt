use Rattle.std.proofs.Common.{◌≡◌, ◌∷◌, ◌++◌, length, sym, ap, ◌∙◌, append-nil, arith}
use Rattle.samples.specs.Runs.{samples_of, rolled}
use Rattle.samples.proofs.Rolled.{rolled-gives}
use Rattle.samples.proofs.Appends.{last_found, rolled-again}
use Rattle.samples.proofs.CutBack.{restored}
use Rattle.samples.proofs.Taken.{left, given, taken_more, taken_wants}
use Rattle.samples.proofs.stream.Runs.extend.Goals as goal
use Rattle.samples.proofs.stream.Runs.extend.Goals.{After-next, After-cut_back}

so_far : (c : After-next) → rolled c.args.samples.now ≡ c.loop-run.yielded ++ left c.loop-run.run-iterator
so_far c = let all : left c.into_iter-run-iterator.result ≡ rolled c.args.samples.now = cc in sym all ∙ given _ c.loop-run.yielded _ c.loop-run.yielded_by

unchanged : (c : After-cut_back) → c.cut_back.new.list.items ≡ c.self.inside.list.items
unchanged c =
    let rs = c.self.inside.list.items in
    let ys = samples_of c.loop-run.yielded in
    let last = last_found rs c.deref.result.now c.last.result c.copied-last.result c.deref.ensures.value c.last.ensures.item c.copied-last.ensures in
    let now =
    sym c.self-in-loop-run.inside.packed
    ∙ ap rolled
    (ap (λ k. k.samples) c.self-in-loop-run.view_is ∙ c.in-Err.ensures.extends.0 ∙ c.loop-run.invariant.0 ∙ ap (λ k. k.samples ++ ys) (sym c.self.view_is)) in
    restored rs _ _ c.copied-last.result c.len-runs.result ys c.self.inside.packed last (c.len-runs.ensures ∙ c.self.inside.list.ok.0) now c.cut_back.ensures

pub invariant_of-self-inside : goal.invariant_of-self-inside
invariant_of-self-inside c = (
  rolled-again c.cut_back.new.list.items (samples_of c.self.inside.list.items) (unchanged (goal.at.invariant_of-self-inside c).After-cut_back ∙ sym c.self.inside.packed),
  tt,
)

pub returns-in-Err : goal.returns-in-Err
returns-in-Err c =
    let ss = c.args.self.now.samples in
    let xs = c.args.samples.now in
    let qs = c.loop-run.yielded in
    let more = left c.next.new.self in
    let r = c.in-Some.run' in
    let all : rolled xs ≡ qs ++ (r ∷ more) = so_far (goal.at.returns-in-Err c).After-next ∙ ap (λ l. qs ++ l) c.in-Some.ensures.steps in
    let wants = taken_wants ss c.loop-run.self.samples qs more r c.loop-run.self.capacity c.loop-run.invariant.0 c.in-Err.ensures.extends.1 in
    let piece = ap (λ ys. length (rolled (ss ++ ys))) (ap samples_of (sym all) ∙ rolled-gives xs) in (
      ap samples_of (unchanged (goal.at.returns-in-Err c).After-cut_back) ∙ ap (λ k. k.samples) c.self.view_is,
      omega (arith, wants, piece, c.loop-run.invariant.1),
    )

pub loop-run-preserved : goal.loop-run-preserved
loop-run-preserved c = (
  taken_more c.args.self.now.samples _ _ c.loop-run.yielded c.in-Some.run' c.loop-run.invariant.0 c.in_default.ensures.extends,
  omega (arith, c.push.ensures.capacity, c.loop-run.invariant.1),
)

pub returns : goal.returns
returns c =
    let all = so_far (goal.at.returns c).After-next ∙ ap (λ rs. c.loop-run.yielded ++ rs) c.in-None.ensures.steps.0 ∙ append-nil c.loop-run.yielded in
    c.loop-run.invariant.0 ∙ ap (λ ys. c.args.self.now.samples ++ ys) (ap samples_of (sym all) ∙ rolled-gives c.args.samples.now)
