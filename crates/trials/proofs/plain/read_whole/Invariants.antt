use Rattle.std.proofs.Common.{◌-◌, length}
use Rattle.trials.proofs.plain.read_whole.Given as goal

abbrev pub decreases-loop-fall : goal.decreases-loop-fall
decreases-loop-fall l = length l.wave.samples.items - l.from
