-- For the contracts of functions that are private to the crate. Assumes nothing: these are definitions.
use Rattle.std.specs.Prelude.{ℕ, ◌-◌, List, length, take, Some, None, Option, slice_set}
use Rattle.samples.specs.declared.run.Run.{Run}

-- the first n runs, the last of them as it was
abbrev pub cut_to : ℕ → Option Run → List Run → List Run
cut_to n None rs = take n rs
cut_to n (Some r) rs = slice_set (take n rs) (length (take n rs) - 1) r
