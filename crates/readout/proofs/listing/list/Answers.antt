use Rattle.std.proofs.Common.{◌+◌, drop, string_bytes, sym, ap, ◌∙◌}
use Rattle.std.proofs.lemmas.Result.{MatchResult-from_err}
use Rattle.samples.specs.Runs.{samples_of}
use Rattle.readout.proofs.Lines.{quiet, output_listed, something_read}
use Rattle.readout.proofs.listing.list.Goals as goal
use Rattle.readout.proofs.listing.list.Goals.{in-Some+in_ok-put_line, in_default}

pub loop-i-preserved : goal.loop-i-preserved
loop-i-preserved g c =
    let e = c.feed-next.ensures in
    let inv = c.loop-i.invariant in
    let more = samples_of (drop (c.loop-run.run-index + 1) c.args.runs.now) in
    elim c.match-output.branch [
      | in-Some+in_ok-put_line w ↦
          let listed = output_listed _ _ more c.loop-i-test.true inv w.in-Some.output _ (sym w.in-Some.is ∙ e.output) e.next in
          rw (ap string_bytes w.out-is, w.in_ok-put_line.ensures, w.from.ensures) listed
      | in_default w ↦
          rw (ap string_bytes w.out-is) (quiet _ _ more c.loop-i-test.true inv _ (sym w.in_default.is ∙ e.output) e.next)
    ]

pub returns-in_err-put_line : goal.returns-in_err-put_line
returns-in_err-put_line g c =
    let some = something_read _ _ (samples_of (drop (c.loop-run.run-index + 1) c.args.runs.now)) c.loop-i-test.true c.loop-i.invariant c.in-Some.output (sym c.in-Some.is ∙ c.feed-next.ensures.output) in
    MatchResult-from_err c.from_residual.result _ _ c.from_residual.ensures.0 (λ _. some)
