-- Bytes as they are sent on a line, which of these waves are fair, and what is promised of them. Assumes nothing: these are definitions and statements.
use Rattle.std.specs.Prelude.{◌≡◌, ℕ, zero, suc, ◌+◌, ◌-◌, ◌/◌, ◌%◌, ◌^◌, ◌<◌, ◌≤◌, Bool, true, false, cond, List, [], ◌∷◌, ◌++◌, map, length, replicate, ◌==◌, nat_le, slice_index}
use Rattle.std.specs.List.{flat_map}
use Rattle.samples.specs.Line.{level}
use Rattle.decoder.specs.Machine.{run, outputs, outputs_at}
use Rattle.uart.specs.declared.words.Word.{Word}
use Rattle.uart.specs.declared.words.Word.TheVariants.{Byte}
use Rattle.uart.specs.Decoder.{step, emit, fresh}
use Rattle.uart.specs.Rule.{look_place}

-- WHAT IS SENT

-- a byte as it is sent: the lengths of its ten levels in samples, and for how many samples the line then stays high
pub record Sent : Type 0 where
  pub value : ℕ
  pub lengths : List ℕ
  pub idle : ℕ

-- level n of a byte: 0 the start bit, which is low, 1 to 8 the data bits with the low one first, 9 the stop bit, which is high
abbrev pub level_of : (value n : ℕ) → Bool
level_of v n = cond (n == 0) false (cond (nat_le n 8) (v / 2 ^ (n - 1) % 2 == 1) true)

-- the levels from n on, each for its length
abbrev pub levels_from : (value n : ℕ) → (lengths : List ℕ) → List Bool
levels_from v n [] = []
levels_from v n (l ∷ ls) = replicate l (level_of v n) ++ levels_from v (suc n) ls

abbrev pub sent_wave : Sent → List Bool
sent_wave b = levels_from b.value 0 b.lengths ++ replicate b.idle true

abbrev pub wave : List Sent → List Bool
wave bs = flat_map sent_wave bs

-- the line is high for some samples, none included, and then the bytes come
abbrev pub wave_after : (lead : ℕ) → List Sent → List Bool
wave_after lead bs = replicate lead true ++ wave bs

-- WHICH WAVES ARE FAIR

-- how many samples come before level n
abbrev pub begin : (lengths : List ℕ) → (n : ℕ) → ℕ
begin [] n = 0
begin (l ∷ ls) zero = 0
begin (l ∷ ls) (suc n) = l + begin ls n

-- each look, at half a bit and so many bits after the first low sample, falls within its level
pub record Fair (bit : ℕ) (b : Sent) : Type 0 where
  pub byte : b.value < 256
  pub ten : length b.lengths ≡ 10
  pub after : (n : ℕ) → n < 10 → begin b.lengths n ≤ look_place bit n
  pub before : (n : ℕ) → n < 10 → look_place bit n < begin b.lengths n + slice_index b.lengths n

-- each byte has fair lengths; by cases, since the proofs go along the list
abbrev pub AllFair : (bit : ℕ) → List Sent → Type 0
AllFair d [] = Unit {0}
AllFair d (b ∷ bs) = Fair d b × AllFair d bs

-- WHAT IS PROMISED

-- the bytes that were sent, each with the place of the look at its stop bit; the first is sent from place p on
abbrev pub sent_at : (bit p : ℕ) → List Sent → List (ℕ × Word)
sent_at d p [] = []
sent_at d p (b ∷ bs) = (p + look_place d 9, Byte b.value) ∷ sent_at d (p + length (sent_wave b)) bs

abbrev pub bytes_sent : List Sent → List Word
bytes_sent bs = map (λ b. Byte b.value) bs

-- THE MAIN PROMISE. Of every wave of bytes with fair lengths just the bytes sent are read, in order, whatever the other lines do; and the reader is then as it was.
abbrev pub WavesAreRead : Type 0
WavesAreRead =
    (d k lead : ℕ) (bs : List Sent) (samples : List ℕ) → 2 ≤ d → AllFair d bs → map (level k) samples ≡ wave_after lead bs →
    (outputs step emit (fresh d k) samples ≡ bytes_sent bs) × (outputs_at step emit 0 (fresh d k) samples ≡ sent_at d lead bs) × (run step (fresh d k) samples ≡ fresh d k)

-- That there are such waves: a byte whose levels are all as long as a bit is fair, whatever the bit.
abbrev pub EqualLengthsAreFair : Type 0
EqualLengthsAreFair = (d v idle : ℕ) → 2 ≤ d → v < 256 → Fair d (record { value = v; lengths = replicate 10 d; idle = idle })
