-- The first line of a text is two numbers, as they are found from the front, or it is refused. Assumes nothing.
use Rattle.std.proofs.Common.{◌≡◌, ℕ, ◌+◌, ◌<◌, min, List, [], ◌∷◌, ◌++◌, length, drop, codes, Some, None, Err, eqb, Option, Result, sym, refl, ap, ◌∙◌, subst, ⊎_elim, append_assoc, append-nil, arith}
use Rattle.std.specs.Str.Iter.{LacksByte}
use Rattle.std.specs.Str.Parse.{digits_value, AllDigits}
use Rattle.std.specs.Int.{IsInRange}
use Rattle.std.proofs.lemmas.List.{append_cancel_left, append_cancel_right, length-append}
use Rattle.std.proofs.lemmas.Str.Parse.{digit_from_value, not_in_digits}
use Rattle.std.proofs.lemmas.Bool.Decides.{nat_tests}
use Rattle.std.specs.List.{before_first}
use Rattle.std.specs.Option.{option_zip, option_map_or}
use Rattle.samples.specs.declared.refusal.Refusal.{Refusal}
use Rattle.samples.specs.declared.refusal.Refusal.TheVariants.{Text}
use Rattle.samples.specs.declared.run.Run.{Run}
use Rattle.formats.specs.Text.{lines_of, number_in, numbers_in, run_of, run_in}
use Rattle.formats.specs.Number.{NoDigit, FrontTo, Ends, TwoNumbers, NoTwoNumbers}
use Rattle.formats.specs.Internal.{FirstLine}
use Rattle.formats.proofs.Numbers.{own, number_some, number_cases}
use Rattle.formats.proofs.Parting.{find_mark, lacks_cons, lacks_append, after_none, before_at, after_at, lines_cut, ends_less}

-- NO TWO NUMBERS

no_digits : (ds rest : List ℕ) → 0 < length ds → AllDigits 10 ds → NoDigit (ds ++ rest) → ⊥
no_digits [] rest some all out = omega arith
no_digits (d ∷ ds) rest some all out = out (digit_from_value d all.0)

one_rest : (ds es a b : List ℕ) → AllDigits 10 ds → AllDigits 10 es → NoDigit a → NoDigit b → ds ++ a ≡ es ++ b → a ≡ b
one_rest [] [] a b hd he na nb e = e
one_rest [] (c ∷ es) a b hd he na nb e = absurd (subst NoDigit e na (digit_from_value c he.0))
one_rest (d ∷ ds) [] a b hd he na nb e = absurd (subst NoDigit (sym e) nb (digit_from_value d hd.0))
one_rest (d ∷ ds) (c ∷ es) a b hd he na nb e = one_rest ds es a b hd.1 he.1 na nb (ap (drop 1) e)

pub no_front : {exact : ℕ} {text rest : List ℕ} {n : ℕ} → NoDigit text → FrontTo exact text n rest → ⊥
no_front {rest = rest} out f = no_digits f.digits rest f.some f.all (subst NoDigit f.cut out)

-- a number is at the front of a text, exact as far as is asked, and no digit follows it
abbrev pub ReadTo : (exact : ℕ) (text : List ℕ) (n : ℕ) (rest : List ℕ) → Type 0
ReadTo exact text n rest = FrontTo exact text n rest × NoDigit rest

-- what `read_number` promises of a number that it read
abbrev pub Read : (text : List ℕ) (n : ℕ) (rest : List ℕ) → Type 0
Read text n rest = ReadTo 1000000 text n rest

-- what follows the digits is the same for each reader, and the number too, as far as it is read exactly
pub same_rest : {exact : ℕ} {text a b : List ℕ} {n m : ℕ} → ReadTo exact text n a → ReadTo exact text m b → a ≡ b
same_rest {a = a} {b = b} f g = one_rest f.0.digits g.0.digits a b f.0.all g.0.all f.1 g.1 (sym f.0.cut ∙ g.0.cut)

pub same_number : {exact : ℕ} {text a b : List ℕ} {n m : ℕ} → ReadTo exact text n a → ReadTo exact text m b → min n (exact + 1) ≡ min m (exact + 1)
same_number {exact = exact} {b = b} f g =
    let ds = append_cancel_right f.0.digits g.0.digits b (ap (λ l. f.0.digits ++ l) (sym (same_rest f g)) ∙ sym f.0.cut ∙ g.0.cut) in
    f.0.same ∙ ap (λ l. min (digits_value 10 l) (exact + 1)) ds ∙ sym g.0.same

pub ends_no_digit : (end after : List ℕ) → Ends end after → NoDigit end
ends_no_digit [] after e = tt
ends_no_digit (b ∷ end) after e = λ h. omega (arith, e.0)

module _ {text between : List ℕ} where
  pub no_first : NoDigit text → NoTwoNumbers text between
  no_first out k d after t = no_front out t.first

  pub no_between : (rest : List ℕ) (n : ℕ) → Read text n rest → ((more : List ℕ) → rest ≡ between ++ more → ⊥) → NoTwoNumbers text between
  no_between rest n f other k d after t = other t.rest (same_rest f (t.first, t.parted))

module _ {text between : List ℕ} {n : ℕ} (more : List ℕ) (first : Read text n (between ++ more)) where
  -- the second number is at the same place for each reader
  second_at : {k d : ℕ} {after : List ℕ} → (t : TwoNumbers text between k d after) → Read more d t.end
  second_at {d = d} {after = after} t =
      let e = append_cancel_left between t.rest more (same_rest (t.first, t.parted) first) in
      (subst (λ l. FrontTo 1000000 l d t.end) e t.second, ends_no_digit t.end after t.ends)

  pub no_second : NoDigit more → NoTwoNumbers text between
  no_second out k d after t = no_front out (second_at t).0

  ends_at : {end : List ℕ} {m k d : ℕ} {after : List ℕ} → Read more m end → TwoNumbers text between k d after → Ends end after
  ends_at {after = after} second t = subst (λ l. Ends l after) (same_rest (second_at t) second) t.ends

  pub no_end : (end : List ℕ) (m : ℕ) → Read more m end → ((after : List ℕ) → Ends end after → ⊥) → NoTwoNumbers text between
  no_end end m second other k d after t = other after (ends_at second t)

-- ONE PAIR

same_after : (end a b : List ℕ) → Ends end a → Ends end b → a ≡ b
same_after [] a b e f = e ∙ sym f
same_after (c ∷ end) a b e f = sym e.1 ∙ f.1

-- the first line of a text has one pair of numbers at most, as far as they are read exactly
pub same_numbers :
    {text between : List ℕ} {k d l e : ℕ} {after rest : List ℕ} → TwoNumbers text between k d after → TwoNumbers text between l e rest →
    (min k 1000001 ≡ min l 1000001) × (min d 1000001 ≡ min e 1000001) × (after ≡ rest)
same_numbers {text = text} {between = between} {k = k} {d = d} {after = after} {rest = rest} t u =
    let first : Read text k (between ++ t.rest) = (t.first, t.parted) in
    let second : Read t.rest d t.end = (t.second, ends_no_digit t.end after t.ends) in (
      same_number first (u.first, u.parted),
      same_number second (second_at t.rest first u),
      same_after t.end after rest t.ends (ends_at t.rest first second u),
    )

-- THE FIRST LINE

line_at :
    (n p : ℕ) (text line end after : List ℕ) (v : Result Run Refusal) → text ≡ line ++ end → 0 < length text → LacksByte 10 line → Ends end after → run_in n p line ≡ v →
    FirstLine n p text v after
line_at n p text line end after v whole some lacks ends read =
    let len = ap length whole in
    record {
      first = line;
      cut = ap lines_of whole ∙ lines_cut line end after (omega arith) lacks ends;
      less = omega (arith, ends_less line end after (omega arith) ends);
      read = read;
    }

lacks_digits : (mark : ℕ) (ds : List ℕ) → AllDigits 10 ds → (IsInRange 48 57 mark → ⊥) → LacksByte mark ds
lacks_digits mark ds all out = not_in_digits own ds mark (own.from ds all) out

pub lacks_newline : (ds es : List ℕ) → AllDigits 10 ds → AllDigits 10 es → LacksByte 10 (ds ++ (32 ∷ es))
lacks_newline ds es hd he =
    lacks_append 10 ds (32 ∷ es) (lacks_digits 10 ds hd (λ o. omega arith)) (lacks_cons 10 32 es (omega arith) (lacks_digits 10 es he (λ o. omega arith)))

-- the parts of a line that has a space
numbers_parted : (ds es : List ℕ) → LacksByte 32 ds → numbers_in (ds ++ (32 ∷ es)) ≡ option_zip (number_in ds) (number_in es)
numbers_parted ds es lacks = rw (before_at 32 ds es lacks, after_at 32 ds es lacks)

pub run_two :
    (n p : ℕ) (ds es : List ℕ) → 0 < length ds → AllDigits 10 ds → 0 < length es → AllDigits 10 es → run_in n p (ds ++ (32 ∷ es)) ≡ run_of n p (digits_value 10 ds) (digits_value 10 es)
run_two n p ds es sd hd se he =
    rw (numbers_parted ds es (lacks_digits 32 ds hd (λ o. omega arith)), number_some ds sd hd, number_some es se he)

run_same : (n p s c v w : ℕ) → min s 1000001 ≡ min v 1000001 → min c 1000001 ≡ min w 1000001 → run_of n p v w ≡ run_of n p s c
run_same n p s c v w es ec = grind (arith, nat_tests)

pub line_read : (n p : ℕ) (text : List ℕ) (s c : ℕ) (after : List ℕ) (v : Result Run Refusal) → TwoNumbers text (codes " ") s c after → run_of n p s c ≡ v → FirstLine n p text v after
line_read n p text s c after v t e =
    let ds = t.first.digits in
    let es = t.second.digits in
    let whole = t.first.cut ∙ ap (λ l. ds ++ (32 ∷ l)) t.second.cut ∙ sym (append_assoc ds (32 ∷ es) t.end) in
    let some : 0 < length text = omega (arith, ap length t.first.cut, length-append ds (32 ∷ t.rest)) in
    line_at n p text (ds ++ (32 ∷ es)) t.end after v whole some (lacks_newline ds es t.first.all t.second.all) t.ends
    (run_two n p ds es t.first.some t.first.all t.second.some t.second.all
    ∙ run_same n p s c (digits_value 10 ds) (digits_value 10 es) t.first.same t.second.same ∙ e)

two_numbers :
    (line end after ds es : List ℕ) → line ≡ ds ++ (32 ∷ es) → Ends end after → (0 < length ds) × AllDigits 10 ds → (0 < length es) × AllDigits 10 es →
    TwoNumbers (line ++ end) (codes " ") (digits_value 10 ds) (digits_value 10 es) after
two_numbers line end after ds es e ends hd he =
    record {
      rest = es ++ end;
      end = end;
      first = record { digits = ds; cut = ap (λ l. l ++ end) e ∙ append_assoc ds (32 ∷ es) end; some = hd.0; all = hd.1; same = refl };
      parted = λ h. omega arith;
      second = record { digits = es; cut = refl; some = he.0; all = he.1; same = refl };
      ends = ends;
    }

option_zip-none : {X Y : Type 0} (o : Option X) → option_zip {U = Y} o None ≡ None
option_zip-none None = refl
option_zip-none (Some x) = refl

no_numbers : (line end after : List ℕ) → Ends end after → NoTwoNumbers (line ++ end) (codes " ") → numbers_in line ≡ None
no_numbers line end after ends not-two =
    ⊎_elim (λ h. ap (λ after. option_zip (number_in (before_first (λ b. eqb b 32) line)) (number_in after)) (after_none 32 line h) ∙ option_zip-none _)
    (λ m.
    let ds = m.before in
    let es = m.after in
    let parts = ap numbers_in m.whole ∙ numbers_parted ds es m.first in
    ⊎_elim (λ e. parts ∙ ap (λ o. option_zip o (number_in es)) e)
    (λ hd.
    ⊎_elim (λ e. parts ∙ ap (λ o. option_zip o (number_in es)) (number_some ds hd.0 hd.1) ∙ ap (option_zip (Some (digits_value 10 ds))) e)
    (λ he. absurd (not-two _ _ after (two_numbers line end after ds es m.whole ends hd he))) (number_cases es)) (number_cases ds))
    (find_mark 32 line)

refused_at :
    (n p : ℕ) (text line end after : List ℕ) → text ≡ line ++ end → 0 < length text → LacksByte 10 line → Ends end after → NoTwoNumbers text (codes " ") →
    (rest : List ℕ) × FirstLine n p text (Err (Text n)) rest
refused_at n p text line end after whole some lacks ends not-two = (
  after,
  line_at n p text line end after (Err (Text n)) whole some lacks ends
      (ap (λ o. option_map_or (λ q. run_of n p q.0 q.1) o (Err (Text n))) (no_numbers line end after ends (subst (λ l. NoTwoNumbers l (codes " ")) whole not-two))),
)

pub line_refused : (n p : ℕ) (text : List ℕ) → 0 < length text → NoTwoNumbers text (codes " ") → (after : List ℕ) × FirstLine n p text (Err (Text n)) after
line_refused n p text some not-two =
    ⊎_elim (λ h. refused_at n p text text [] [] (sym (append-nil text)) some h refl not-two)
    (λ m. refused_at n p text m.before (10 ∷ m.after) m.after m.whole some m.first (refl, refl) not-two) (find_mark 10 text)
