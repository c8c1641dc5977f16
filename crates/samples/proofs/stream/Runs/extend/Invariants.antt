use Rattle.std.proofs.Common.{◌≡◌, ◌≤◌, ◌++◌}
use Rattle.samples.specs.Runs.{samples_of}
use Rattle.samples.proofs.stream.Runs.extend.Given as goal

abbrev pub invariant-loop-run : goal.invariant-loop-run
invariant-loop-run l = (l.self.samples ≡ l.initial.self.samples ++ samples_of l.yielded) × (l.initial.self.capacity ≤ l.self.capacity)
