-- An answer as one number. Assumes nothing: these are definitions.
use Rattle.std.specs.Prelude.{ℕ, ◌-◌, ◌^◌, Ok, Err, Result}
use Rattle.samples.specs.declared.refusal.Refusal.{Refusal}

-- how many; or the largest number, where nothing was read
abbrev pub count_of : Result ℕ Refusal → ℕ
count_of (Ok n) = n
count_of (Err f) = 2 ^ 64 - 1
