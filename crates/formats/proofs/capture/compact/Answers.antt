use Rattle.std.proofs.Common.{Ok, sym, ap, ◌∙◌}
use Rattle.std.specs.Result.{result_map_both}
use Rattle.samples.specs.Runs.{samples_of}
use Rattle.samples.proofs.Rolled.{rolled-gives}
use Rattle.samples.proofs.Fewest.{rolled-minimal}
use Rattle.formats.proofs.capture.compact.Goals as goal

pub returns : goal.returns
returns c =
    let ss = c.in_ok-runs.runs.samples in
    let wrote = c.in_ok-write_capture.ensures in
    let given = c.in_ok-runs.ensures in
    record {
      samples = ss;
      given = given;
      written = wrote.0;
      minimal = rolled-minimal ss;
      same = ap (result_map_both samples_of (λ f. f)) (wrote.1 0) ∙ ap Ok (rolled-gives ss) ∙ sym given;
    }
