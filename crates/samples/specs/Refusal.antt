-- The list of refusals. Assumes nothing: these are definitions.
use Rattle.std.specs.Prelude.{ℕ}
use Rattle.samples.specs.declared.refusal.Refusal.{Refusal}
use Rattle.samples.specs.declared.refusal.Refusal.TheVariants.{Setting, Memory, Samples, Room, Text}

-- each refusal has a number
abbrev pub number_of : Refusal → ℕ
number_of (Setting p) = 1
number_of (Memory p) = 2
number_of (Samples p) = 3
number_of (Room p) = 4
number_of (Text p) = 5

-- and a place, which counts from 0; that of Room is how much there is
abbrev pub place_of : Refusal → ℕ
place_of (Setting p) = p
place_of (Memory p) = p
place_of (Samples p) = p
place_of (Room p) = p
place_of (Text p) = p
