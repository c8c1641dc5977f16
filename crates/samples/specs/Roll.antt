-- What `roll` answers of samples and a room. Assumes nothing: these are definitions.
use Rattle.std.specs.Prelude.{◌≡◌, ℕ, ◌*◌, ◌<◌, ◌≤◌, ◌⊎◌, List, [], ◌∷◌, ◌++◌, length, drop, Ok, Err, Result}
use Rattle.std.specs.List.{flat_map}
use Rattle.samples.specs.declared.refusal.Refusal.{Refusal}
use Rattle.samples.specs.declared.run.Run.{Run}
use Rattle.samples.specs.Refusal.{number_of, place_of}
use Rattle.samples.specs.Runs.{samples_of, WellFormed, Minimal}

-- two numbers for each run
abbrev pub numbers : List Run → List ℕ
numbers rs = flat_map (λ r. r.sample ∷ (r.count ∷ [])) rs

-- the first numbers of the room are these, and the others stay
abbrev pub filled : List ℕ → List ℕ → List ℕ
filled ns room = ns ++ drop (length ns) room

-- why a piece is refused, by number and place: too many samples; or too little room for any runs that give them
abbrev pub Unrollable : (samples room : List ℕ) → (number place : ℕ) → Type 0
Unrollable ss room n p =
    ((n ≡ 3) × (p ≡ 65535) × (65535 < length ss))
    ⊎ ((n ≡ 4) × (p ≡ length room) × (length ss ≤ 65535) × ((rs : List Run) → WellFormed rs → samples_of rs ≡ ss → length room < 2 * length rs))

-- as few runs as there can be are in the room; or why they are not, and then nothing changed
abbrev pub Rolls : (samples room : List ℕ) → Result ℕ Refusal → (room_after : List ℕ) → Type 0
Rolls ss room (Ok n) after =
    (length ss ≤ 65535) × ((rs : List Run) × Minimal ss rs × (n ≡ length rs) × (2 * n ≤ length room) × (after ≡ filled (numbers rs) room))
Rolls ss room (Err f) after = Unrollable ss room (number_of f) (place_of f) × (after ≡ room)
