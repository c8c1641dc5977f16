-- What is read of a text: a header, and the lines of a capture below it. Assumes nothing: these are definitions.
use Rattle.std.specs.Prelude.{◌≡◌, ℕ, ◌⊎◌, List, ◌++◌, map, length, Some, Ok}
use Rattle.samples.specs.declared.refusal.Refusal.TheVariants.{Text}
use Rattle.samples.specs.Line.{level}
use Rattle.decoder.specs.Machine.{outputs_at, placed_within}
use Rattle.uart.specs.declared.words.Word.{Word}
use Rattle.uart.specs.Decoder.{step, emit, fresh, setting_at_fault}
use Rattle.uart.specs.Stream.{InRange, Carries}
use Rattle.uart.specs.Wave.{Sent, wave_after, AllFair, sent_at}
use Rattle.uart.specs.Word.{word_text}
use Rattle.formats.specs.declared.failure.Failure.{Failure}
use Rattle.formats.specs.declared.failure.Failure.TheVariants.{Memory, Refused}
use Rattle.formats.specs.Capture.{samples_in, Fails}
use Rattle.readout.specs.declared.header.Settings.{Settings}
use Rattle.readout.specs.declared.header.Settings.TheVariants.{Serial}
use Rattle.readout.specs.Header.{Header, NoHeader}
use Rattle.readout.specs.Listing.{listing}

-- A SERIAL LINE

-- The capture below the header, whose first line is line 1, stands for samples, and what the reader reads of them is listed.
-- Where these carry a fair wave on the line, whatever the other lines do, just the bytes sent are listed, each with the place of the look at its stop bit.
-- And of every stream, fair or not, of which the capture is the beginning, just those words are listed that are complete by its end.
pub record DecodesSerial (line bit : ℕ) (after out : List ℕ) : Type 0 where
  pub samples : List ℕ
  pub range : InRange bit line
  pub given : samples_in 1 after ≡ Ok samples
  pub listed : out ≡ listing word_text (outputs_at step emit 0 (fresh bit line) samples)
  pub fair : (lead : ℕ) (bs : List Sent) → AllFair bit bs → map (level line) samples ≡ wave_after lead bs → out ≡ listing word_text (sent_at bit lead bs)
  pub begun : (rest : List ℕ) (words : List (ℕ × Word)) → Carries bit line (samples ++ rest) words → out ≡ listing word_text (placed_within 0 (length samples) words)

-- a setting is out of its range; or the capture fails
abbrev pub FailsSerial : Failure → (line bit : ℕ) → (after : List ℕ) → Type 0
FailsSerial Memory k d after = InRange d k × Fails 1 Memory after
FailsSerial (Refused f) k d after = (setting_at_fault d k ≡ Some f) ⊎ (InRange d k × Fails 1 (Refused f) after)

-- ANY HEADER

abbrev pub DecodesBy : Settings → (after out : List ℕ) → Type 0
DecodesBy (Serial line bit) after out = DecodesSerial line bit after out

abbrev pub FailsBy : Failure → Settings → (after : List ℕ) → Type 0
FailsBy e (Serial line bit) after = FailsSerial e line bit after

-- what a text comes to by the header that it begins with
pub record Decodes (text out : List ℕ) : Type 0 where
  pub settings : Settings
  pub after : List ℕ
  pub header : Header text settings after
  pub decoded : DecodesBy settings after out

-- there is no header on line 0; or what is below it fails
abbrev pub DecodeFails : Failure → List ℕ → Type 0
DecodeFails e text = (NoHeader text × (e ≡ Refused (Text 0))) ⊎ ((s : Settings) × (after : List ℕ) × Header text s after × FailsBy e s after)

-- A text comes to one listing: what a header asks for, what follows it and what is listed are found in the text alone.
abbrev pub ListingIsOne : Type 0
ListingIsOne = (text out other : List ℕ) → Decodes text out → Decodes text other → out ≡ other
