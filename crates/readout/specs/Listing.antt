-- What is read as text: a line `WORDS at PLACE` for each output. Assumes nothing: these are definitions.
use Rattle.std.specs.Prelude.{ℕ, List, [], ◌∷◌, ◌++◌, Option, codes, decimal}
use Rattle.std.specs.Option.{unwrap_or}
use Rattle.std.specs.List.{flat_map}

-- the words that stand for an output: the text that `{}` writes of it
abbrev pub shown : {O : Type 0} → (O → Option (List ℕ)) → O → List ℕ
shown output o = unwrap_or (output o) []

-- the line of an output, with the place of the sample at which it was complete
abbrev pub line_at : {O : Type 0} → (O → List ℕ) → ℕ × O → List ℕ
line_at words p = words p.1 ++ (codes " at " ++ (decimal p.0 ++ (10 ∷ [])))

-- a line for each output, in order
abbrev pub listing : {O : Type 0} → (O → List ℕ) → List (ℕ × O) → List ℕ
listing words ps = flat_map (line_at words) ps
