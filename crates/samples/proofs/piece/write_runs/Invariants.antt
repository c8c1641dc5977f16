use Rattle.std.proofs.Common.{◌≡◌, map}
use Rattle.samples.specs.Roll.{numbers, filled}
use Rattle.samples.proofs.piece.write_runs.Given as goal

-- the runs so far are written
abbrev pub invariant-loop-place : goal.invariant-loop-place
invariant-loop-place l = l.room ≡ filled (numbers (map (λ p. p.1) l.yielded)) l.initial.room
