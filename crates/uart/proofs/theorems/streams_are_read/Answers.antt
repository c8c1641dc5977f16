use Rattle.uart.proofs.Streams.{streams_are_read}
use Rattle.uart.proofs.theorems.streams_are_read.Goals as goal

pub returns : goal.returns
returns c = streams_are_read
