-- A piece comes to one run more than it has changes. Assumes nothing.
use Rattle.std.proofs.Common.{◌≡◌, ℕ, ◌+◌, ◌<◌, ◌≤◌, cond, eqb, List, [], ◌∷◌, length, drop, sym, refl, ap, ◌∙◌, arith}
use Rattle.std.specs.List.{sum_by, zip}
use Rattle.std.proofs.lemmas.Bool.{cond-true, cond-false, cond_both, and_from, and_left, eqb-true, lt-ltb}
use Rattle.std.proofs.lemmas.List.Sums.{sum_by-cons}
use Rattle.samples.specs.Runs.{run, takes_in, rolled_on, rolled}

-- 1 where a sample differs from the one before it
abbrev pub change : ℕ × ℕ → ℕ
change p = cond (eqb p.1 p.0) 0 1

-- how often samples change, after x
abbrev pub changes : ℕ → List ℕ → ℕ
changes x ys = sum_by change (zip (x ∷ ys) ys)

change_small : (p : ℕ × ℕ) → change p ≤ 1
change_small p = cond_both (eqb p.1 p.0) 0 1 (λ n. n ≤ 1) (λ _. omega arith) (λ _. omega arith)

changes_few : (x : ℕ) (ys : List ℕ) → changes x ys ≤ length ys
changes_few x [] = omega arith
changes_few x (y ∷ ys) = omega (arith, sum_by-cons change (x, y) (zip (y ∷ ys) ys), change_small (x, y), changes_few y ys)

-- there are fewer changes than samples
pub changes_fewer : (ss : List ℕ) → 0 < length ss → 1 + sum_by change (zip ss (drop 1 ss)) ≤ length ss
changes_fewer [] l = absurd (omega arith)
changes_fewer (x ∷ xs) l = omega (arith, changes_few x xs)

counted_on : (x n : ℕ) (ys : List ℕ) → n + length ys ≤ 65535 → length (rolled_on (run x n) ys) ≡ 1 + changes x ys
counted_on x n [] h = refl
counted_on x n (y ∷ ys) h =
    let same = rolled_on (run x (n + 1)) ys in
    let other = run x n ∷ rolled_on (run y 1) ys in
    cond_both (eqb y x) 0 1 (λ m. length (rolled_on (run x n) (y ∷ ys)) ≡ 1 + (m + changes y ys))
    (λ e.
    let more = ap length (cond-true (takes_in (run x n) y) same other (and_from _ _ e (lt-ltb n 65535 (omega arith)))) in
    omega (arith, more, counted_on x (n + 1) ys (omega arith), ap (λ z. changes z ys) (eqb-true y x e)))
    (λ e.
    let one = ap length (cond-false (takes_in (run x n) y) same other (and_left (eqb y x) _ e)) in
    omega (arith, one, counted_on y 1 ys (omega arith)))
    ∙ ap (λ m. 1 + m) (sym (sum_by-cons change (x, y) (zip (y ∷ ys) ys)))

pub counted : (ss : List ℕ) → 0 < length ss → length ss ≤ 65535 → 1 + sum_by change (zip ss (drop 1 ss)) ≡ length (rolled ss)
counted [] l h = absurd (omega arith)
counted (x ∷ xs) l h = sym (counted_on x 1 xs (omega arith))
