-- The reader of a serial line: eight data bits after a start bit, and a stop bit. Assumes nothing: these are definitions.
use Rattle.std.specs.Prelude.{ℕ, ◌+◌, ◌-◌, ◌*◌, ◌/◌, ◌^◌, min, Bool, true, false, cond, not, ◌&&◌, ◌||◌, List, [], ◌∷◌, length, Some, None, Ok, Err, Option, Result, ◌==◌, nat_le, nat_lt, slice_index}
use Rattle.samples.specs.declared.refusal.Refusal.{Refusal}
use Rattle.samples.specs.declared.refusal.Refusal.TheVariants.{Setting}
use Rattle.samples.specs.Line.{level}
use Rattle.decoder.specs.Reading.{After, refused, reading}
use Rattle.uart.specs.declared.words.Word.{Word}
use Rattle.uart.specs.declared.words.Word.TheVariants.{Byte, Broken}
use Rattle.uart.specs.declared.words.State.{State}

-- a level as a number
abbrev pub digit : Bool → ℕ
digit x = cond x 1 0

-- STEP BY STEP

-- a reader that waits for the level to fall
abbrev pub idle : State → (level : Bool) → State
idle r x = record { bit = r.bit; line = r.line; busy = false; level = x; wait = 0; next = 0; bits = 0 }

-- a reader with a byte under way
abbrev pub under_way : State → (level : Bool) → (wait next bits : ℕ) → State
under_way r x w n b = record { bit = r.bit; line = r.line; busy = true; level = x; wait = w; next = n; bits = b }

-- a look at the start bit, where a high level means that it was none, at a data bit, or at the stop bit
abbrev pub looked : State → (level : Bool) → State
looked r x =
    cond (r.next == 0) (cond x (idle r x) (under_way r x (r.bit - 1) 1 0))
    (cond (nat_le r.next 8) (under_way r x (r.bit - 1) (r.next + 1) (r.bits + digit x * 2 ^ (r.next - 1))) (idle r x))

-- what is read at a look: a word at the stop bit, which is broken where that is low
abbrev pub word_at : State → (level : Bool) → Option Word
word_at r x = cond (nat_le r.next 8) None (Some (cond x (Byte r.bits) (Broken r.bits)))

-- a level: at a fall the first look is half a bit away, and each further look a bit
abbrev pub on_level : State → (level : Bool) → State
on_level r x =
    cond r.busy (cond (r.wait == 0) (looked r x) (under_way r x (r.wait - 1) r.next r.bits))
    (cond (r.level && not x) (under_way r x (r.bit / 2 - 1) 0 0) (idle r x))

abbrev pub read_at : State → (level : Bool) → Option Word
read_at r x = cond r.busy (cond (r.wait == 0) (word_at r x) None) None

-- a sample: no line but its own is looked at
abbrev pub step : State → ℕ → State
step r s = on_level r (level r.line s)

abbrev pub emit : State → ℕ → Option Word
emit r s = read_at r (level r.line s)

-- nothing read yet, with the level before taken as high
abbrev pub fresh : (bit line : ℕ) → State
fresh d k = record { bit = d; line = k; busy = false; level = true; wait = 0; next = 0; bits = 0 }

-- NUMBERS

-- a word as two numbers: 0 or, broken, 1, and the byte
abbrev pub encoded : Word → List ℕ
encoded (Byte v) = 0 ∷ (v ∷ [])
encoded (Broken v) = 1 ∷ (v ∷ [])

-- the memory: whether a byte is under way, the level before, samples to wait, which look comes next, the bits so far
abbrev pub saved : State → List ℕ
saved r = digit r.busy ∷ (digit r.level ∷ (r.wait ∷ (r.next ∷ (r.bits ∷ []))))

abbrev pub reader_in : State → List ℕ → State
reader_in r m =
    record { bit = r.bit; line = r.line; busy = (slice_index m 0 == 1); level = (slice_index m 1 == 1); wait = slice_index m 2; next = slice_index m 3; bits = slice_index m 4 }

-- the reader that a memory stands for; or the first place missing or too many, or of the first number at fault
abbrev pub restored : State → List ℕ → Result State ℕ
restored r m =
    cond (length m == 5)
    (cond (nat_lt 1 (slice_index m 0)) (Err 0)
    (cond (nat_lt 1 (slice_index m 1)) (Err 1)
    (cond (nat_le r.bit (slice_index m 2)) (Err 2)
    (cond (nat_lt 9 (slice_index m 3)) (Err 3)
    (cond (nat_le (2 ^ (slice_index m 3 - 1)) (slice_index m 4)) (Err 4) (Ok (reader_in r m)))))))
    (Err (min (length m) 5))

-- THE ENTRY

-- the first setting that is out of its range: 0 the length of a bit, 1 the line
abbrev pub setting_at_fault : (bit line : ℕ) → Option Refusal
setting_at_fault d k = cond (nat_lt d 2 || nat_lt 1000000 d) (Some (Setting 0)) (cond (nat_lt 15 k) (Some (Setting 1)) None)

abbrev pub unless_refused : Option Refusal → (memory room : List ℕ) → After → After
unless_refused None memory room after = after
unless_refused (Some f) memory room after = refused f memory room

-- what `serial` answers and leaves behind
abbrev pub serial_after : (bit line : ℕ) → (samples memory room : List ℕ) → After
serial_after d k samples memory room =
    unless_refused (setting_at_fault d k) memory room (reading step emit encoded saved (restored (fresh d k) memory) samples memory room)
