-- The header line of a text. Assumes nothing: these are definitions.
use Rattle.std.specs.Prelude.{◌≡◌, ℕ, List, ◌++◌, codes}
use Rattle.formats.specs.Number.{TwoNumbers}
use Rattle.readout.specs.declared.header.Settings.{Settings}
use Rattle.readout.specs.declared.header.Settings.TheVariants.{Serial}

-- the text begins with the line `serial line K bit D`, and `after` follows it; k and d are its numbers, or above 1,000,000 as those are
pub record SerialHeader (text : List ℕ) (k d : ℕ) (after : List ℕ) : Type 0 where
  pub rest : List ℕ
  pub begins : text ≡ codes "serial line " ++ rest
  pub numbers : TwoNumbers rest (codes " bit ") k d after

-- the text begins with the header line of the settings, and `after` follows it
abbrev pub Header : List ℕ → Settings → List ℕ → Type 0
Header text (Serial line bit) after = SerialHeader text line bit after

-- the text begins with no header line
abbrev pub NoHeader : List ℕ → Type 0
NoHeader text = (s : Settings) (after : List ℕ) → Header text s after → ⊥
