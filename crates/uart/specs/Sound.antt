-- What holds of a reader, and that it goes on to hold. Assumes nothing.
use Rattle.std.specs.Prelude.{◌≡◌, ℕ, ◌+◌, ◌-◌, ◌*◌, ◌/◌, ◌^◌, ◌<◌, ◌≤◌, Bool, true, false, not, ◌&&◌, ◌==◌, nat_le}
use Rattle.std.proofs.Common.{arith, mul-le-mul_right, pow-add}
use Rattle.std.proofs.lemmas.Bool.{cond_both, eqb-false, leb-true}
use Rattle.samples.specs.Line.{level}
use Rattle.uart.specs.declared.words.State.{State}
use Rattle.uart.specs.Decoder.{digit, idle, under_way, looked, on_level, step, fresh}

-- the settings are in their ranges, and what is remembered is what a reader can come to
pub record Sound (r : State) : Type 0 where
  pub bit_low : 2 ≤ r.bit
  pub bit_high : r.bit ≤ 1000000
  pub line_small : r.line ≤ 15
  pub wait_small : r.wait < r.bit
  pub next_small : r.next ≤ 9
  pub bits_small : r.bits < 2 ^ (r.next - 1)

pub digit_small : (x : Bool) → digit x ≤ 1
digit_small true = omega arith
digit_small false = omega arith

one_more : (bits n : ℕ) (x : Bool) → 1 ≤ n → bits < 2 ^ (n - 1) → bits + digit x * 2 ^ (n - 1) < 2 ^ (n + 1 - 1)
one_more bits n x l h =
    let e : n + 1 - 1 ≡ n - 1 + 1 = omega arith in
    rw e (omega (arith, mul-le-mul_right (2 ^ (n - 1)) (digit_small x), pow-add 2 (n - 1) 1))

-- a reader that has read nothing yet, where its settings are in their ranges
pub fresh_sound : (d k : ℕ) → 2 ≤ d → d ≤ 1000000 → k ≤ 15 → Sound (fresh d k)
fresh_sound d k two most few =
    record { bit_low = two; bit_high = most; line_small = few; wait_small = omega (arith, two); next_small = omega arith; bits_small = omega arith }

module _ (r : State) (h : Sound r) (x : Bool) where
  idle_sound : Sound (idle r x)
  idle_sound =
      record { bit_low = h.bit_low; bit_high = h.bit_high; line_small = h.line_small; wait_small = omega (arith, h.bit_low); next_small = omega arith; bits_small = omega arith }

  under_way_sound : (w n b : ℕ) → w < r.bit → n ≤ 9 → b < 2 ^ (n - 1) → Sound (under_way r x w n b)
  under_way_sound w n b p q s = record { bit_low = h.bit_low; bit_high = h.bit_high; line_small = h.line_small; wait_small = p; next_small = q; bits_small = s }

  looked_sound : Sound (looked r x)
  looked_sound =
      cond_both (r.next == 0) _ _ Sound
      (λ e. cond_both x _ _ Sound (λ _. idle_sound) (λ _. under_way_sound (r.bit - 1) 1 0 (omega (arith, h.bit_low)) (omega arith) (omega arith)))
      (λ e.
      cond_both (nat_le r.next 8) _ _ Sound
      (λ f.
      let some = eqb-false r.next 0 e in
      let few = leb-true r.next 8 f in
      under_way_sound (r.bit - 1) (r.next + 1) (r.bits + digit x * 2 ^ (r.next - 1)) (omega (arith, h.bit_low)) (omega arith)
      (one_more r.bits r.next x (omega (arith, some)) h.bits_small))
      (λ _. idle_sound))

  pub on_level_sound : Sound (on_level r x)
  on_level_sound =
      cond_both r.busy _ _ Sound
      (λ _.
      cond_both (r.wait == 0) _ _ Sound (λ _. looked_sound)
      (λ _. under_way_sound (r.wait - 1) r.next r.bits (omega (arith, h.wait_small)) h.next_small h.bits_small))
      (λ _.
      cond_both (r.level && not x) _ _ Sound (λ _. under_way_sound (r.bit / 2 - 1) 0 0 (omega (arith, h.bit_low)) (omega arith) (omega arith)) (λ _. idle_sound))

pub step_sound : (r : State) (s : ℕ) → Sound r → Sound (step r s)
step_sound r s h = on_level_sound r h (level r.line s)
