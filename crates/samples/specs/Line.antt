-- Lines of a sample. Assumes nothing: these are definitions.
use Rattle.std.specs.Prelude.{ℕ, ◌/◌, ◌%◌, ◌^◌, Bool, ◌==◌}

-- a sample is a number of sixteen bits: line k is its bit k, bit 0 counting 1
abbrev pub level : ℕ → ℕ → Bool
level k s = s / 2 ^ k % 2 == 1
