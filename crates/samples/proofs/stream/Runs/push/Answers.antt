use Rattle.std.proofs.Common.{ℕ, List, ◌≡◌, ◌-◌, ◌++◌, length, set, replicate, None, Some, refl, sym, ap, ◌∙◌, append-nil, arith}
use Rattle.std.specs.Option.{option_to_list}
use Rattle.samples.specs.declared.run.Run.{Run}
use Rattle.samples.specs.Runs.{samples_of, rolled}
use Rattle.samples.specs.Stream.{Kept}
use Rattle.samples.proofs.Appends.{Last, last_found, last_replaced, last_counted, first_pushed, first_counted, first_or_none, rolled-again}
use Rattle.samples.proofs.Rolled.{rolled-gives}
use Rattle.samples.proofs.Wants.{not_extended}
use Rattle.samples.proofs.stream.Runs.push.Goals as goal
use Rattle.samples.proofs.stream.Runs.push.Goals.{In-Some, In_default, In_ok-push, After-index_mut, in-Some-rest+in_ok-push-2, in_default-rest}

-- what is kept then, where these are the runs
more_samples :
    (is rs : List Run) (viewed before : Kept) (piece : List ℕ) → is ≡ rolled (samples_of rs ++ piece) → viewed.samples ≡ samples_of rs → viewed ≡ before →
    samples_of is ≡ before.samples ++ piece
more_samples is rs viewed before piece e runs view =
    ap samples_of e ∙ rolled-gives (samples_of rs ++ piece) ∙ ap (λ ss. ss ++ piece) (sym runs) ∙ ap (λ k. k.samples ++ piece) view

none : (c : In_default) → Last c.self.inside.list.items None
none c = last_found c.self.inside.list.items c.deref.result.now c.last.result None c.deref.ensures.value c.last.ensures.item c.in_default.ensures

some : (c : In-Some) → Last c.self.inside.list.items (Some c.in-Some.last)
some c = last_found c.self.inside.list.items c.deref.result.now c.last.result (Some c.in-Some.last) c.deref.ensures.value c.last.ensures.item c.in-Some.ensures

first :
    (c : In_ok-push) → Last c.self.inside.list.items None →
    c.push.new.self.items ≡ rolled (samples_of c.self.inside.list.items ++ replicate c.args.run.count c.args.run.sample)
first c empty = first_pushed c.self.inside.list.items _ c.args.run.sample c.args.run.count empty (omega arith) (omega arith) c.in_ok-push.ensures.items

pub invariant_of-self-inside : goal.invariant_of-self-inside
invariant_of-self-inside c = (
  first_or_none _ c.self.inside.list.items _ c.args.run.sample c.args.run.count (none (goal.at.invariant_of-self-inside c).In_default) (omega arith) (omega arith)
      c.push.ensures.items c.self.inside.packed,
  tt,
)

pub returns-in_default-clause-extends : goal.returns-in_default-clause-extends
returns-in_default-clause-extends c =
    more_samples _ c.self.inside.list.items _ c.args.self.now (replicate c.args.run.count c.args.run.sample)
    (first (goal.at.returns-in_default-clause-extends c).In_ok-push (none (goal.at.returns-in_default-clause-extends c).In_default)) refl c.self.view_is

pub returns-in_err-push-clause-extends : goal.returns-in_err-push-clause-extends
returns-in_err-push-clause-extends c =
    let rs = c.self.inside.list.items in
    let more = replicate c.args.run.count c.args.run.sample in
    let empty = none (goal.at.returns-in_err-push-clause-extends c).In_default in
    let one = first_counted rs c.args.run.sample c.args.run.count empty (omega arith) (omega arith) in
    not_extended c.from_residual.result c.args.self.now _ more c.from_residual.ensures.0 (ap samples_of c.in_err-push.ensures.items ∙ ap (λ k. k.samples) c.self.view_is)
    (omega (arith, one, empty, c.self.inside.list.ok.0, ap (λ k. length (rolled (k.samples ++ more))) c.self.view_is, ap (λ k. k.capacity) c.self.view_is, c.in_err-push.ensures.full))

pub returns-in_err-push-2-clause-extends : goal.returns-in_err-push-2-clause-extends
returns-in_err-push-2-clause-extends c =
    let rs = c.self.inside.list.items in
    let more = replicate c.args.run.count c.args.run.sample in
    let counted =
    last_counted rs (option_to_list c.join-rest.result.1) c.in-Some.last c.join-rest.result.0 more c.self.inside.packed
    (some (goal.at.returns-in_err-push-2-clause-extends c).In-Some) c.join-rest.ensures in
    let one = ap (λ o. length (option_to_list o)) c.in-Some-rest.is in
    not_extended c.from_residual-in_err-push-2.result c.args.self.now _ more c.from_residual-in_err-push-2.ensures.0
    (ap samples_of c.in_err-push-2.ensures.items ∙ ap (λ k. k.samples) c.self.view_is)
    (omega (arith, counted, one, c.self.inside.list.ok.0, ap (λ k. length (rolled (k.samples ++ more))) c.self.view_is, ap (λ k. k.capacity) c.self.view_is, c.in_err-push-2.ensures.full))

grows : (c : After-index_mut) → c.match-rest.self-inside.1.0.items ≡ c.self.inside.list.items ++ option_to_list c.join-rest.result.1
grows c =
    let rs = c.self.inside.list.items in
    elim c.match-rest.branch [
      | in-Some-rest+in_ok-push-2 w ↦ ap (λ s. s.1.0.items) w.self-inside-is ∙ w.in_ok-push-2.ensures.items ∙ ap (λ o. rs ++ option_to_list o) (sym w.in-Some-rest.is)
      | in_default-rest w ↦ ap (λ s. s.1.0.items) w.self-inside-is ∙ sym (append-nil rs) ∙ ap (λ o. rs ++ option_to_list o) (sym w.in_default-rest.is)
    ]

replaced :
    (c : After-index_mut) → Last c.self.inside.list.items (Some c.in-Some.last) →
    set c.match-rest.self-inside.1.0.items (c.len-at.result - 1) c.join-rest.result.0
    ≡ rolled (samples_of c.self.inside.list.items ++ replicate c.args.run.count c.args.run.sample)
replaced c last =
    last_replaced c.self.inside.list.items _ (option_to_list c.join-rest.result.1) c.len-at.result c.in-Some.last c.join-rest.result.0 _ c.self.inside.packed
    (c.len-at.ensures ∙ c.self.inside.list.ok.0)
    last (grows c) c.join-rest.ensures

pub invariant_of-self-inside-2 : goal.invariant_of-self-inside-2
invariant_of-self-inside-2 c = (
  rolled-again _ (samples_of c.self.inside.list.items ++ replicate c.args.run.count c.args.run.sample)
      (replaced (goal.at.invariant_of-self-inside-2 c).After-index_mut (some (goal.at.invariant_of-self-inside-2 c).In-Some)),
  tt,
)

pub returns-clause-extends : goal.returns-clause-extends
returns-clause-extends c =
    more_samples _ c.self.inside.list.items _ c.args.self.now (replicate c.args.run.count c.args.run.sample)
    (replaced (goal.at.returns-clause-extends c).After-index_mut (some (goal.at.returns-clause-extends c).In-Some)) refl c.self.view_is
