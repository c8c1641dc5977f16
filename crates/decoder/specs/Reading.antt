-- What reading on from a lent memory answers, and what the memory and the room hold afterwards. Assumes nothing: these are definitions and statements.
use Rattle.std.specs.Prelude.{◌≡◌, ℕ, ◌+◌, ◌*◌, ◌≤◌, cond, List, [], ◌++◌, map, length, take, Ok, Err, Option, Result, ◌≢◌, nat_le}
use Rattle.std.specs.List.{flat_map}
use Rattle.samples.specs.declared.refusal.Refusal.{Refusal}
use Rattle.samples.specs.declared.refusal.Refusal.TheVariants.{Memory, Samples, Room}
use Rattle.samples.specs.Roll.{filled}
use Rattle.decoder.specs.Machine.{run, outputs, outputs_at}

-- after a call: its answer, and what the memory and the room hold
pub record After : Type 0 where
  pub answer : Result ℕ Refusal
  pub memory : List ℕ
  pub room : List ℕ

-- a refusal changes nothing
abbrev pub refused : Refusal → (memory room : List ℕ) → After
refused f memory room = record { answer = Err f; memory = memory; room = room }

module _ {S O : Type 0} (step : S → ℕ → S) (emit : S → ℕ → Option O) (encoded : O → List ℕ) where
  -- the numbers of all outputs, in order
  abbrev pub numbers_read : S → (samples : List ℕ) → List ℕ
  numbers_read s samples = flat_map encoded (outputs step emit s samples)

module _ {S O : Type 0} (step : S → ℕ → S) (emit : S → ℕ → Option O) (encoded : O → List ℕ) (saved : S → List ℕ) where
  -- all that is read is in the room, and the reader in the memory
  abbrev pub read_all : S → (samples room : List ℕ) → After
  read_all s samples room =
      record {
        answer = Ok (length (outputs step emit s samples));
        memory = saved (run step s samples);
        room = filled (numbers_read step emit encoded s samples) room;
      }

  -- nothing changes where the room is too little
  abbrev pub read_from : S → (samples memory room : List ℕ) → After
  read_from s samples memory room =
      cond (nat_le (length (numbers_read step emit encoded s samples)) (length room)) (read_all s samples room) (refused (Room (length room)) memory room)

  -- the same from the reader that a memory was restored to, or from the place at which no reader leaves such a memory
  abbrev pub reading : Result S ℕ → (samples memory room : List ℕ) → After
  reading (Err place) samples memory room = refused (Memory place) memory room
  reading (Ok s) samples memory room =
      cond (nat_le (length samples) 65535) (read_from s samples memory room) (refused (Samples 65535) memory room)

-- the numbers that a call left in its room, so many for each output
abbrev pub numbers_given : (width : ℕ) → Result ℕ Refusal → (room : List ℕ) → List ℕ
numbers_given width (Ok n) room = take (n * width) room
numbers_given width (Err f) room = []

-- WHEREVER SAMPLES ARE CUT, THE SAME IS READ, of a call that gives so many numbers for each output.
module _ (width : ℕ) (call : (samples memory room : List ℕ) → After) where
  -- Of two calls, the second with the memory that the first left, and of one call over the joined samples: all that the two read, the one reads, and it leaves the same memory.
  abbrev pub TwoReadAsOne : Type 0
  TwoReadAsOne =
      (xs ys memory room₁ room₂ room : List ℕ) (n m : ℕ) → (call xs memory room₁).answer ≡ Ok n → (call ys (call xs memory room₁).memory room₂).answer ≡ Ok m →
      length (xs ++ ys) ≤ 65535 → (n + m) * width ≤ length room →
      call (xs ++ ys) memory room
      ≡ record {
        answer = Ok (n + m);
        memory = (call ys (call xs memory room₁).memory room₂).memory;
        room = filled (numbers_given width (Ok n) (call xs memory room₁).room ++ numbers_given width (Ok m) (call ys (call xs memory room₁).memory room₂).room) room;
      }

  -- And the memory that a call left is taken back, whatever is read with it.
  abbrev pub LeftIsTakenBack : Type 0
  LeftIsTakenBack =
      (xs ys memory room₁ room₂ : List ℕ) (n place : ℕ) → (call xs memory room₁).answer ≡ Ok n →
      (call ys (call xs memory room₁).memory room₂).answer ≢ Err (Memory place)

  abbrev pub CutIsRead : Type 0
  CutIsRead = TwoReadAsOne × LeftIsTakenBack

-- the calls of a decoder, by the settings that its readers have
module _ {S O : Type 0} (step : S → ℕ → S) (emit : S → ℕ → Option O) (encoded : O → List ℕ) (saved : S → List ℕ) (restored : S → List ℕ → Result S ℕ) where
  abbrev pub call_with : (settings : S) → (samples memory room : List ℕ) → After
  call_with settings samples memory room = reading step emit encoded saved (restored settings memory) samples memory room

-- The law behind it: a machine comes to the same state, with the same outputs at the same places; and an output without its place is an output.
abbrev pub MachineIsCut : {S X O : Type 0} → (S → X → S) → (S → X → Option O) → Type 0
MachineIsCut {S} {X} step emit =
    (n : ℕ) (s : S) (xs ys : List X) →
    (run step s (xs ++ ys) ≡ run step (run step s xs) ys)
    × (outputs_at step emit n s (xs ++ ys) ≡ outputs_at step emit n s xs ++ outputs_at step emit (n + length xs) (run step s xs) ys)
    × (outputs step emit s xs ≡ map (λ p. p.1) (outputs_at step emit n s xs))
