use Rattle.uart.proofs.Rules.{looks_are_read}
use Rattle.uart.proofs.theorems.looks_are_read.Goals as goal

pub returns : goal.returns
returns c = looks_are_read
