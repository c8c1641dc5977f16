-- A stream of samples that is handed over piece by piece. Assumes nothing: these are definitions.
use Rattle.std.specs.Prelude.{◌≡◌, ℕ, ◌^◌, ◌<◌, ◌≤◌, List, [], ◌++◌, length, Ok, Err, Result}
use Rattle.std.specs.List.{flat_map, fold}
use Rattle.samples.specs.declared.run.Run.{Run}
use Rattle.samples.specs.Runs.{samples_of, rolled, Minimal}

-- what is kept of a stream: its samples, as runs, and how many runs there is capacity for, which are never fewer than there are
pub record Kept : Type 0 where
  pub samples : List ℕ
  pub capacity : ℕ
  pub enough : length (rolled samples) ≤ capacity
  pub bound : capacity < 2 ^ 63

-- the runs of a stream that goes on with a piece
abbrev pub extended : List Run → List ℕ → List Run
extended rs piece = rolled (samples_of rs ++ piece)

-- a stream went on with a piece; or it is as it was, for want of memory, since that takes more runs than its list has capacity for
abbrev pub Extends : {E : Type 0} → Result (Unit {0}) E → (before : Kept) → (piece : List ℕ) → (after : Kept) → Type 0
Extends (Ok u) before piece after = after.samples ≡ before.samples ++ piece
Extends (Err e) before piece after = (after.samples ≡ before.samples) × (before.capacity < length (rolled (before.samples ++ piece)))

-- of a stream that went on with a piece, by its samples or by `Extends`, the runs are those that it had, extended with the piece
abbrev pub RunsAreExtended : Type 0
RunsAreExtended =
    ((before after piece : List ℕ) → after ≡ before ++ piece → rolled after ≡ extended (rolled before) piece)
    × ((before after : Kept) (piece : List ℕ) → Extends {E = Unit {0}} (Ok tt) before piece after → rolled after.samples ≡ extended (rolled before.samples) piece)

-- the runs of a stream after all its pieces
abbrev pub handed_over : List Run → List (List ℕ) → List Run
handed_over rs pieces = fold extended rs pieces

-- however a stream is cut, its runs are those of the whole, and as few as there can be
abbrev pub AnyCut : Type 0
AnyCut =
    (pieces : List (List ℕ)) →
    (handed_over [] pieces ≡ rolled (flat_map (λ p. p) pieces)) × Minimal (flat_map (λ p. p) pieces) (handed_over [] pieces)

-- every list of samples can be kept as runs of which no others are fewer
abbrev pub RolledIsMinimal : Type 0
RolledIsMinimal = (ss : List ℕ) → Minimal ss (rolled ss)
