-- The front of a text: a decimal number, the end of a line, or a line of two numbers. Assumes nothing: these are definitions.
use Rattle.std.specs.Prelude.{◌≡◌, ℕ, ◌+◌, ◌<◌, min, List, [], ◌∷◌, ◌++◌, length}
use Rattle.std.specs.Str.Parse.{digits_value, AllDigits}
use Rattle.std.specs.Int.{IsInRange}

-- a text that begins with no digit
abbrev pub NoDigit : List ℕ → Type 0
NoDigit [] = Unit {0}
NoDigit (b ∷ bs) = IsInRange 48 57 b → ⊥

-- one digit or more at the front of a text write the number n, or both are above `exact`; `rest` follows them
pub record FrontTo (exact : ℕ) (text : List ℕ) (n : ℕ) (rest : List ℕ) : Type 0 where
  pub digits : List ℕ
  pub cut : text ≡ digits ++ rest
  pub some : 0 < length digits
  pub all : AllDigits 10 digits
  pub same : min n (exact + 1) ≡ min (digits_value 10 digits) (exact + 1)

-- a line ends here, with a newline or with the text, and `after` follows
abbrev pub Ends : List ℕ → List ℕ → Type 0
Ends [] after = after ≡ []
Ends (b ∷ bs) after = (b ≡ 10) × (bs ≡ after)

-- the first line of a text is the numbers n and m with `between` between them, where the digits of n end, and `after` follows that line
pub record TwoNumbers (text between : List ℕ) (n m : ℕ) (after : List ℕ) : Type 0 where
  pub rest : List ℕ
  pub end : List ℕ
  pub first : FrontTo 1000000 text n (between ++ rest)
  pub parted : NoDigit (between ++ rest)
  pub second : FrontTo 1000000 rest m end
  pub ends : Ends end after

-- the first line of a text is something else, or there is none
abbrev pub NoTwoNumbers : (text between : List ℕ) → Type 0
NoTwoNumbers text between = (n m : ℕ) (after : List ℕ) → TwoNumbers text between n m after → ⊥
