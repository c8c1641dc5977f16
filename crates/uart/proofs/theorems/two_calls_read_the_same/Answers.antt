use Rattle.uart.proofs.Streams.{calls_are_cut}
use Rattle.uart.proofs.theorems.two_calls_read_the_same.Goals as goal

pub returns : goal.returns
returns c = calls_are_cut
