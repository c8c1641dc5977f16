use Rattle.samples.proofs.Cuts.{any_cut, runs_are_extended}
use Rattle.samples.proofs.theorems.any_cut_is_the_same.Goals as goal

pub returns : goal.returns
returns c = record { pieces = runs_are_extended; cut = any_cut }
