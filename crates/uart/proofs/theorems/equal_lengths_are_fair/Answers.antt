use Rattle.uart.proofs.Levels.{equal_lengths_are_fair}
use Rattle.uart.proofs.theorems.equal_lengths_are_fair.Goals as goal

pub returns : goal.returns
returns c = equal_lengths_are_fair
