-- What is promised of calls of `serial` on the pieces of a stream. Assumes nothing: these are definitions and statements.
use Rattle.std.specs.Prelude.{◌≡◌, ℕ, ◌+◌, ◌*◌, ◌≤◌, true, ◌⊎◌, List, [], ◌∷◌, ◌++◌, map, length, Ok}
use Rattle.std.specs.List.{flat_map}
use Rattle.samples.specs.Line.{level}
use Rattle.samples.specs.Roll.{filled}
use Rattle.decoder.specs.Machine.{run, placed_within}
use Rattle.decoder.specs.Reading.{After, numbers_given, CutIsRead}
use Rattle.uart.specs.declared.words.Word.{Word}
use Rattle.uart.specs.Decoder.{step, encoded, saved, fresh, serial_after}
use Rattle.uart.specs.Rule.{by_looks}
use Rattle.uart.specs.Wave.{Sent, wave_after, AllFair, sent_at}

-- settings in their ranges
abbrev pub InRange : (bit line : ℕ) → Type 0
InRange d k = (2 ≤ d) × (d ≤ 1000000) × (k ≤ 15)

-- The words that a whole stream of samples carries on a line, each with its place, whatever the other lines do:
-- where the wave is fair, the bytes that were sent; and of every wave what the rule of looks finds.
abbrev pub Carries : (bit line : ℕ) → (samples : List ℕ) → List (ℕ × Word) → Type 0
Carries d k samples words =
    ((lead : ℕ) × (bs : List Sent) × AllFair d bs × (map (level k) samples ≡ wave_after lead bs) × (words ≡ sent_at d lead bs))
    ⊎ (words ≡ by_looks (length samples) d 0 true (map (level k) samples))

-- ONE CALL

-- the samples `before` came first, from a fresh memory, in whatever pieces, and this is the memory that they left
abbrev pub Follows : (bit line : ℕ) → (before memory : List ℕ) → Type 0
Follows d k before memory = memory ≡ saved (run step (fresh d k) before)

-- the words that are complete within a piece, which comes after the samples `before`
abbrev pub share : (words : List (ℕ × Word)) → (before piece : List ℕ) → List Word
share words before piece = map (λ p. p.1) (placed_within (length before) (length before + length piece) words)

-- A call on any piece of a stream reads just its share of the words that the stream carries, and the next call follows.
abbrev pub ReadsItsShare : (bit line : ℕ) → (samples memory room : List ℕ) → After → Type 0
ReadsItsShare d k samples memory room after =
    (words : List (ℕ × Word)) (before rest : List ℕ) → InRange d k → Carries d k (before ++ (samples ++ rest)) words → Follows d k before memory →
    length samples ≤ 65535 → length (flat_map encoded (share words before samples)) ≤ length room →
    (after.answer ≡ Ok (length (share words before samples))) × Follows d k (before ++ samples) after.memory
    × (after.room ≡ filled (flat_map encoded (share words before samples)) room)

-- ALL CALLS

-- a piece of a stream, and the room that is lent with it
pub record Call : Type 0 where
  pub piece : List ℕ
  pub room : List ℕ

-- calls one after the other, each with the memory that the one before left
abbrev pub calls : (bit line : ℕ) → (memory : List ℕ) → List Call → List After
calls d k memory [] = []
calls d k memory (c ∷ cs) = serial_after d k c.piece memory c.room ∷ calls d k (serial_after d k c.piece memory c.room).memory cs

-- no call is refused; by cases, since the proofs go along the list
abbrev pub AllRead : List After → Type 0
AllRead [] = Unit {0}
AllRead (a ∷ rest) = ((n : ℕ) × (a.answer ≡ Ok n)) × AllRead rest

-- no piece is too long, and each room holds a word for each sample; by cases too
abbrev pub AllAmple : List Call → Type 0
AllAmple [] = Unit {0}
AllAmple (c ∷ cs) = (length c.piece ≤ 65535) × (length c.piece * 2 ≤ length c.room) × AllAmple cs

-- A stream that is cut into pieces anywhere: if no call is refused, and none is where each room is ample, just the words that the stream carries are in the rooms, in order.
abbrev pub StreamsAreRead : Type 0
StreamsAreRead =
    (d k : ℕ) (words : List (ℕ × Word)) (cs : List Call) → InRange d k → Carries d k (flat_map (λ (c : Call). c.piece) cs) words →
    (AllAmple cs → AllRead (calls d k (saved (fresh d k)) cs))
    × (AllRead (calls d k (saved (fresh d k)) cs) →
    flat_map (λ (a : After). numbers_given 2 a.answer a.room) (calls d k (saved (fresh d k)) cs) ≡ flat_map encoded (map (λ p. p.1) words))

-- Wherever samples are cut, two calls read what one call over the joined samples reads, and the memory that a call left is taken back.
abbrev pub CallsAreCut : Type 0
CallsAreCut = (d k : ℕ) → CutIsRead 2 (serial_after d k)
