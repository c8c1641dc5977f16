use Rattle.uart.proofs.Bytes.{bytes_only}
use Rattle.uart.proofs.theorems.only_bytes_are_read.Goals as goal

pub returns : goal.returns
returns c = bytes_only
