-- Which level of a byte a sample of its wave belongs to, and what the levels of a line are to a reader. Assumes nothing.
use Rattle.std.proofs.Common.{◌≡◌, ℕ, zero, suc, ◌+◌, ◌-◌, ◌*◌, ◌<◌, ◌≤◌, Bool, true, List, [], ◌∷◌, map, length, get_or, replicate, refl, ap, ◌∙◌, suc-mul, arith, rules, length-append}
use Rattle.std.specs.Option.{option_map}
use Rattle.std.proofs.lemmas.List.{get_or_append_left, get_or-append_right, get_or-replicate, length-replicate}
use Rattle.samples.specs.Line.{level}
use Rattle.decoder.specs.Machine.{run, before, outputs_at}
use Rattle.uart.specs.declared.words.State.{State}
use Rattle.uart.specs.Decoder.{on_level, read_at, step, emit}
use Rattle.uart.specs.Wave.{level_of, levels_from, begin, EqualLengthsAreFair}

-- A BYTE'S LEVELS

pub begin-first : (ls : List ℕ) → begin ls 0 ≡ 0
begin-first [] = refl
begin-first (l ∷ ls) = refl

pub begin-next : (ls : List ℕ) (n : ℕ) → n < length ls → begin ls (suc n) ≡ begin ls n + get_or ls n 0
begin-next [] n h = absurd (omega arith)
begin-next (l ∷ ls) zero h = omega (arith, begin-first ls)
begin-next (l ∷ ls) (suc n) h = let e = begin-next ls n (omega arith) in omega arith

begin-equal : (m n l : ℕ) → n ≤ m → begin (replicate m l) n ≡ n * l
begin-equal zero zero l h = omega arith
begin-equal zero (suc n) l h = absurd (omega arith)
begin-equal (suc m) zero l h = omega arith
begin-equal (suc m) (suc n) l h = let e = begin-equal m n l (omega arith) in omega (arith, e, suc-mul n l)

pub equal_lengths_are_fair : EqualLengthsAreFair
equal_lengths_are_fair d v idle two byte =
    record {
      byte = byte;
      ten = length-replicate 10 d;
      after = λ n h. omega (arith, begin-equal 10 n d (omega arith));
      before = λ n h. omega (arith, begin-equal 10 n d (omega arith), get_or-replicate 10 n d 0 h);
    }

pub length-levels : (v n : ℕ) (ls : List ℕ) → length (levels_from v n ls) ≡ begin ls (length ls)
length-levels v n [] = refl
length-levels v n (l ∷ ls) =
    let on = length-levels v (suc n) ls in
    length-append (replicate l (level_of v n)) (levels_from v (suc n) ls) ∙ omega (arith, length-replicate l (level_of v n))

-- a sample within level n + i, of the levels from n on
pub in_level :
    (v n : ℕ) (ls : List ℕ) (i q : ℕ) → i < length ls → begin ls i ≤ q → q < begin ls i + get_or ls i 0 →
    (q < length (levels_from v n ls)) × (get_or (levels_from v n ls) q true ≡ level_of v (n + i))
in_level v n [] i q h a b = absurd (omega arith)
in_level v n (l ∷ ls) zero q h a b =
    let here = replicate l (level_of v n) in
    let rest = levels_from v (suc n) ls in
    let long = length-replicate l (level_of v n) in
    let z : n ≡ n + 0 = omega arith in (
      omega (arith, length-append here rest),
      get_or_append_left here rest true q (omega arith) ∙ get_or-replicate l q (level_of v n) true (omega arith) ∙ ap (level_of v) z,
    )
in_level v n (l ∷ ls) (suc i) q h a b =
    let here = replicate l (level_of v n) in
    let rest = levels_from v (suc n) ls in
    let long = length-replicate l (level_of v n) in
    let on = in_level v (suc n) ls i (q - l) (omega arith) (omega arith) (omega arith) in
    let z : suc n + i ≡ n + suc i = omega arith in
    (omega (arith, on.0, length-append here rest), get_or-append_right here rest l q true long (omega arith) ∙ on.1 ∙ ap (level_of v) z)

-- A LINE'S LEVELS

same_line : (r : State) (x : Bool) → (on_level r x).line ≡ r.line
same_line = search rules

-- a reader comes to the same over samples and over the levels of its line
pub line_run : (r : State) (ss : List ℕ) → run step r ss ≡ run on_level r (map (level r.line) ss)
line_run r [] = refl
line_run r (s ∷ ss) = line_run (step r s) ss ∙ ap (λ k. run on_level (step r s) (map (level k) ss)) (same_line r (level r.line s))

pub line_words : (p : ℕ) (r : State) (ss : List ℕ) → outputs_at step emit p r ss ≡ outputs_at on_level read_at p r (map (level r.line) ss)
line_words p r [] = refl
line_words p r (s ∷ ss) =
    ap (before (option_map (λ w. (p, w)) (emit r s)))
    (line_words (p + 1) (step r s) ss ∙ ap (λ k. outputs_at on_level read_at (p + 1) (step r s) (map (level k) ss)) (same_line r (level r.line s)))
