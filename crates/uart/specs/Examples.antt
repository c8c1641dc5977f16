-- Worked examples of the definitions. Assumes nothing: these are definitions and statements.
use Rattle.std.specs.Prelude.{◌≡◌, ℕ, List, [], ◌∷◌, ◌++◌, map, replicate}
use Rattle.std.specs.List.{flat_map}
use Rattle.samples.specs.Line.{level}
use Rattle.decoder.specs.Machine.{outputs_at}
use Rattle.uart.specs.declared.words.Word.{Word}
use Rattle.uart.specs.declared.words.Word.TheVariants.{Byte, Broken}
use Rattle.uart.specs.Decoder.{step, emit, fresh}
use Rattle.uart.specs.Wave.{Sent, wave}

-- AT FOUR SAMPLES A BIT, ON LINE 0

-- each level for four samples
abbrev pub held : List ℕ → List ℕ
held levels = flat_map (replicate 4) levels

-- a byte sent so, with nothing after it
abbrev pub sent_equal : ℕ → Sent
sent_equal v = record { value = v; lengths = replicate 10 4; idle = 0 }

abbrev pub words_in : (samples : List ℕ) → List (ℕ × Word)
words_in samples = outputs_at step emit 0 (fresh 4 0) samples

-- a start bit, the data bits of 65 with the low one first, and a stop bit
abbrev pub one_byte : List ℕ
one_byte = held (0 ∷ (1 ∷ (0 ∷ (0 ∷ (0 ∷ (0 ∷ (0 ∷ (1 ∷ (0 ∷ (1 ∷ []))))))))))

-- the bytes 255 and 0, with nothing between
abbrev pub two_bytes : List ℕ
two_bytes = held (0 ∷ (replicate 9 1 ++ (replicate 9 0 ++ (1 ∷ []))))

-- AT AN ODD NUMBER OF SAMPLES A BIT, ON ANOTHER LINE

-- the bits of 65 on line 3, five samples each, after seven samples of an idle line
abbrev pub odd_byte : List ℕ
odd_byte = replicate 7 8 ++ flat_map (replicate 5) (0 ∷ (8 ∷ (0 ∷ (0 ∷ (0 ∷ (0 ∷ (0 ∷ (8 ∷ (0 ∷ (8 ∷ []))))))))))

pub record WorkedExamples : Type 0 where
  pub one_sent : map (level 0) one_byte ≡ wave (sent_equal 65 ∷ [])
  pub one_read : words_in one_byte ≡ (38, Byte 65) ∷ []
  pub two_sent : map (level 0) two_bytes ≡ wave (sent_equal 255 ∷ (sent_equal 0 ∷ []))
  pub two_read : words_in two_bytes ≡ (38, Byte 255) ∷ ((78, Byte 0) ∷ [])
  -- a broken byte, and one that is read after it
  pub broken_read : words_in (held (0 ∷ (replicate 8 1 ++ (0 ∷ (1 ∷ [])))) ++ one_byte) ≡ (38, Broken 255) ∷ ((82, Byte 65) ∷ [])
  -- a line that stays low: its stop bit is low, and it does not fall again
  pub low_read : words_in (replicate 80 0) ≡ (38, Broken 0) ∷ []
  -- a low level that is over before the look at the start bit
  pub glitch_read : words_in (0 ∷ (0 ∷ replicate 80 1)) ≡ []
  -- five samples a bit
  pub odd_read : outputs_at step emit 0 (fresh 5 3) odd_byte ≡ (54, Byte 65) ∷ []
