use Rattle.samples.proofs.Fewest.{rolled-minimal}
use Rattle.samples.proofs.theorems.runs_are_fewest.Goals as goal

pub returns : goal.returns
returns c = rolled-minimal
