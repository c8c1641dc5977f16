-- The rule of reading, for every wave, fair or not: a frame is read by looks at its places. Assumes nothing: these are definitions and statements.
use Rattle.std.specs.Prelude.{◌≡◌, ℕ, zero, suc, ◌+◌, ◌*◌, ◌/◌, ◌^◌, ◌<◌, ◌≤◌, Bool, true, cond, not, ◌&&◌, List, [], ◌∷◌, map, length, drop, Ok, nat_le, slice_index_or}
use Rattle.samples.specs.Line.{level}
use Rattle.decoder.specs.Machine.{outputs, outputs_at}
use Rattle.uart.specs.declared.words.State.{State}
use Rattle.uart.specs.declared.words.Word.{Word}
use Rattle.uart.specs.declared.words.Word.TheVariants.{Byte, Broken}
use Rattle.uart.specs.Decoder.{digit, step, emit, restored, fresh}

-- A FRAME, with its levels from its first low level on

-- how many levels come before look n: 0 is the look at the start bit, 1 to 8 at the data bits, 9 at the stop bit
abbrev pub look_place : (bit n : ℕ) → ℕ
look_place d n = d / 2 + n * d

-- the level that look n finds; past the end, where no word is read, the line is taken as high
abbrev pub look : (bit : ℕ) → (frame : List Bool) → (n : ℕ) → Bool
look d xs n = slice_index_or xs (look_place d n) true

-- the number that the first n data bits make, the low one first
abbrev pub bits_at : (bit : ℕ) → (frame : List Bool) → (n : ℕ) → ℕ
bits_at d xs zero = 0
bits_at d xs (suc n) = bits_at d xs n + digit (look d xs (suc n)) * 2 ^ n

-- a word, which is broken where the stop bit is low
abbrev pub word_of : (bit : ℕ) → (frame : List Bool) → Word
word_of d xs = cond (look d xs 9) (Byte (bits_at d xs 8)) (Broken (bits_at d xs 8))

-- ALL LEVELS

-- The words of levels, each with the place of the look at its stop bit; the first level is at place p, and the level before it was b.
-- A frame begins where the level falls. Where the look at its start bit finds a high level it was none, and where the levels end before its last look it is not read.
-- The reading goes on with the level after the last look. The number of the levels is fuel enough.
abbrev pub by_looks : (fuel bit p : ℕ) → (b : Bool) → (levels : List Bool) → List (ℕ × Word)
by_looks zero d p b xs = []
by_looks (suc fuel) d p b [] = []
by_looks (suc fuel) d p b (x ∷ xs) =
    cond (b && not x)
    (cond (nat_le (length (x ∷ xs)) (look_place d 0)) []
    (cond (look d (x ∷ xs) 0) (by_looks fuel d (p + suc (look_place d 0)) true (drop (suc (look_place d 0)) (x ∷ xs)))
    (cond (nat_le (length (x ∷ xs)) (look_place d 9)) []
    ((p + look_place d 9, word_of d (x ∷ xs)) ∷ by_looks fuel d (p + suc (look_place d 9)) (look d (x ∷ xs) 9) (drop (suc (look_place d 9)) (x ∷ xs))))))
    (by_looks fuel d (p + 1) x xs)

-- EVERY WAVE IS READ BY THE RULE, whatever the other lines do.
abbrev pub LooksAreRead : Type 0
LooksAreRead = (d k : ℕ) (samples : List ℕ) → 2 ≤ d → outputs_at step emit 0 (fresh d k) samples ≡ by_looks (length samples) d 0 true (map (level k) samples)

-- ONLY BYTES

-- the number that a word holds
abbrev pub value_of : Word → ℕ
value_of (Byte v) = v
value_of (Broken v) = v

-- each word holds a byte; by cases, since the proofs go along the list
abbrev pub AllBytes : List Word → Type 0
AllBytes [] = Unit {0}
AllBytes (w ∷ ws) = (value_of w < 256) × AllBytes ws

-- EACH WORD HOLDS A BYTE, from whatever memory the reading goes on.
abbrev pub BytesOnly : Type 0
BytesOnly =
    (d k : ℕ) (memory : List ℕ) (r : State) (samples : List ℕ) → 2 ≤ d → d ≤ 1000000 → k ≤ 15 → restored (fresh d k) memory ≡ Ok r →
    AllBytes (outputs step emit r samples)
