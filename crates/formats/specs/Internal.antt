-- For the contracts of functions that are private to the crate: what is read at the front of a text. Assumes nothing: these are definitions.
use Rattle.std.specs.Prelude.{◌≡◌, ℕ, ◌<◌, List, ◌∷◌, length, Result}
use Rattle.samples.specs.declared.refusal.Refusal.{Refusal}
use Rattle.samples.specs.declared.run.Run.{Run}
use Rattle.formats.specs.Text.{lines_of, run_in}

-- the first line of a text is read as v, and `after` follows that line; n lines and p samples come before it
pub record FirstLine (n p : ℕ) (text : List ℕ) (v : Result Run Refusal) (after : List ℕ) : Type 0 where
  pub first : List ℕ
  pub cut : lines_of text ≡ first ∷ lines_of after
  pub less : length after < length text
  pub read : run_in n p first ≡ v
