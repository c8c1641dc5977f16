use Rattle.std.proofs.Common.{length}
use Rattle.formats.specs.Number.{FrontTo}
use Rattle.formats.proofs.number.read_number.Given as goal

abbrev pub invariant-loop-rest : goal.invariant-loop-rest
invariant-loop-rest l = FrontTo 1000000 l.text l.number l.rest

abbrev pub decreases-loop-rest : goal.decreases-loop-rest
decreases-loop-rest l = length l.rest
