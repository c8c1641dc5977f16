use Rattle.uart.proofs.Waves.{waves_are_read}
use Rattle.uart.proofs.theorems.fair_waves_are_read.Goals as goal

pub returns : goal.returns
returns c = waves_are_read
