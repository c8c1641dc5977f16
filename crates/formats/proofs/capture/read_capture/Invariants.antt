use Rattle.std.proofs.Common.{◌≡◌, List}
use Rattle.samples.specs.declared.run.Run.{Run}
use Rattle.formats.specs.Text.{lines_of, reading_from, runs_read, runs_in}
use Rattle.formats.proofs.Captures.{onto, KeptSo}
use Rattle.formats.proofs.capture.read_capture.Given as goal

abbrev pub invariant-loop-run : goal.invariant-loop-run
invariant-loop-run l =
    (goal.iterator-loop-run).can_next l.run-iterator × (goal.iterator-loop-run).is_finite l.run-iterator
    × ((rs : List Run)
    × (runs_in l.first_line l.text ≡ onto rs (runs_read (reading_from l.run-iterator.line l.run-iterator.place (lines_of l.run-iterator.rest.now))))
    × KeptSo l.kept l.runs.samples rs)
