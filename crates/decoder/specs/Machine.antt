-- A machine that takes one input after the other, and may give an output at each. Assumes nothing: these are definitions.
use Rattle.std.specs.Prelude.{ℕ, ◌+◌, cond, ◌&&◌, List, [], ◌∷◌, Some, None, Option, nat_le, nat_lt}
use Rattle.std.specs.Option.{option_map}

-- the state after all inputs
abbrev pub run : {S X : Type 0} → (S → X → S) → S → List X → S
run step s [] = s
run step s (x ∷ xs) = run step (step s x) xs

-- an output, if there is one, in front of others
abbrev pub before : {O : Type 0} → Option O → List O → List O
before None os = os
before (Some o) os = o ∷ os

-- all outputs, in order
abbrev pub outputs : {S X O : Type 0} → (S → X → S) → (S → X → Option O) → S → List X → List O
outputs step emit s [] = []
outputs step emit s (x ∷ xs) = before (emit s x) (outputs step emit (step s x) xs)

-- The same machine, with the place of its next input; an output is given with the place of the input at which it came.

abbrev pub counting : {S X : Type 0} → (S → X → S) → ℕ × S → X → ℕ × S
counting step c x = (c.0 + 1, step c.1 x)

abbrev pub placing : {S X O : Type 0} → (S → X → Option O) → ℕ × S → X → Option (ℕ × O)
placing emit c x = option_map (λ o. (c.0, o)) (emit c.1 x)

-- all outputs with their places, in order; the first input is at place n
abbrev pub outputs_at : {S X O : Type 0} → (S → X → S) → (S → X → Option O) → ℕ → S → List X → List (ℕ × O)
outputs_at step emit n s xs = outputs (counting step) (placing emit) (n, s) xs

-- those outputs whose places lie from p on and before q
abbrev pub placed_within : {O : Type 0} → (p q : ℕ) → List (ℕ × O) → List (ℕ × O)
placed_within p q [] = []
placed_within p q (x ∷ xs) = cond (nat_le p x.0 && nat_lt x.0 q) (x ∷ placed_within p q xs) (placed_within p q xs)
