-- Samples kept as runs. Assumes nothing: these are definitions.
use Rattle.std.specs.Prelude.{◌≡◌, ℕ, ◌+◌, ◌≤◌, Bool, cond, ◌&&◌, List, [], ◌∷◌, length, replicate, ◌==◌, nat_lt}
use Rattle.std.specs.List.{flat_map}
use Rattle.samples.specs.declared.run.Run.{Run}

-- a run gives its sample as often as it counts
abbrev pub samples_of : List Run → List ℕ
samples_of rs = flat_map (λ r. replicate r.count r.sample) rs

-- a run counts 1 to 65,535 samples; by cases, and not by `All`, which speaks of indices: the proofs go along the list
abbrev pub WellFormed : List Run → Type 0
WellFormed [] = Unit {0}
WellFormed (r ∷ rs) = (1 ≤ r.count) × (r.count ≤ 65535) × WellFormed rs

-- the runs give these samples, and no others that do are fewer
pub record Minimal (ss : List ℕ) (rs : List Run) : Type 0 where
  pub formed : WellFormed rs
  pub gives : samples_of rs ≡ ss
  pub fewest : (qs : List Run) → WellFormed qs → samples_of qs ≡ ss → length rs ≤ length qs

-- THE RUNS THAT ARE KEPT

abbrev pub run : (sample count : ℕ) → Run
run x n = record { sample = x; count = n }

-- the run takes in one sample more where that is equal and the count stays within 65,535
abbrev pub takes_in : Run → ℕ → Bool
takes_in r x = x == r.sample && nat_lt r.count 65535

-- what a run that is still open and the samples after it come to
abbrev pub rolled_on : Run → List ℕ → List Run
rolled_on r [] = r ∷ []
rolled_on r (x ∷ xs) = cond (takes_in r x) (rolled_on (run r.sample (r.count + 1)) xs) (r ∷ rolled_on (run x 1) xs)

-- the samples as runs, each as long as it can be
abbrev pub rolled : List ℕ → List Run
rolled [] = []
rolled (x ∷ xs) = rolled_on (run x 1) xs
