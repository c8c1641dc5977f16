-- A level as a number, and the bits of a byte. Assumes nothing.
use Rattle.std.proofs.Common.{◌≡◌, ℕ, zero, suc, ◌+◌, ◌*◌, ◌/◌, ◌%◌, ◌^◌, ◌<◌, Bool, true, false, eqb, refl, arith}
use mir.Val.{bool_byte}
use Rattle.std.proofs.lemmas.Nat.{mod-pow-add}
use Rattle.uart.specs.Decoder.{digit}

-- what `u8::from` makes of a level
pub byte_is_digit : (x : Bool) → bool_byte x ≡ digit x
byte_is_digit true = refl
byte_is_digit false = refl

digit_below : (m : ℕ) → m < 2 → digit (eqb m 1) ≡ m
digit_below zero h = refl
digit_below (suc zero) h = refl
digit_below (suc (suc m)) h = absurd (omega arith)

-- the first n bits of a number, and one more
pub bits_more : (v n : ℕ) → v % 2 ^ n + digit (eqb (v / 2 ^ n % 2) 1) * 2 ^ n ≡ v % 2 ^ suc n
bits_more v n =
    let e : suc n ≡ 1 + n = omega arith in
    rw (digit_below (v / 2 ^ n % 2) (omega arith), e) (omega (arith, mod-pow-add v 1 n))
