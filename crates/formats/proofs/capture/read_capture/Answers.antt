use Rattle.std.proofs.Common.{◌≡◌, [], ◌∷◌, ◌++◌, ap, ◌∙◌}
use Rattle.formats.specs.Text.{lines_of, reading_from, runs_read, runs_in}
use Rattle.formats.proofs.Captures.{onto, read_more, kept_more, kept_none}
use Rattle.formats.proofs.capture.read_capture.Goals as goal
use Rattle.formats.proofs.capture.read_capture.Goals.{In_ok-run}

-- one run more is read
read_on :
    (c : In_ok-run) →
    runs_in c.args.first_line c.args.text.now
    ≡ onto (c.loop-run.invariant.2.0 ++ (c.in_ok-run.run' ∷ [])) (runs_read (reading_from c.next.new.self.line c.next.new.self.place (lines_of c.next.new.self.rest.now)))
read_on c =
    let left = c.next.new.self in
    read_more _ _ _ _ c.in_ok-run.run' c.loop-run.invariant.2.1
    (c.in-Some.ensures.steps ∙ ap (λ x. x ∷ reading_from left.line left.place (lines_of left.rest.now)) c.in_ok-run.was)

pub loop-run-preserved-then-is_ok : goal.loop-run-preserved-then-is_ok
loop-run-preserved-then-is_ok c =
    let kept = kept_more _ _ _ _ _ c.in_ok-run.run' c.if-is_ok.ensures.value c.loop-run.invariant.2.2 c.push-kept.ensures.extends in
    (tt, tt, (_, read_on (goal.at.loop-run-preserved-then-is_ok c).In_ok-run, kept))

pub loop-run-preserved : goal.loop-run-preserved
loop-run-preserved c =
    let kept = kept_none _ _ _ c.in_ok-run.run' c.if-is_ok.ensures.value c.loop-run.invariant.2.2 in
    (tt, tt, (_, read_on (goal.at.loop-run-preserved c).In_ok-run, kept))
