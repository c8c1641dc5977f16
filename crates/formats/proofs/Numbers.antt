-- The digits of a number, as they are read. Assumes nothing.
use Rattle.std.proofs.Common.{◌≡◌, ℕ, ◌+◌, ◌-◌, ◌*◌, ◌<◌, min, true, ◌&&◌, ltb, ◌⊎◌, List, [], ◌∷◌, ◌++◌, length, get_or, take, drop, Some, None, sym, ap, ◌∙◌, inl, inr, ⊎_elim, append_assoc, arith}
use Rattle.std.specs.Str.Parse.{digits_value, AllDigits}
use Rattle.std.specs.Int.{IsInRange}
use Rattle.std.specs.Char.{digit_value as digitValue}
use Rattle.std.specs.Str.{all_ascii_digits}
use Rattle.std.proofs.lemmas.Int.Digits.{digits_value_push, digits_push}
use Rattle.std.proofs.lemmas.List.{length-append, take_rest, drop_more}
use Rattle.std.proofs.lemmas.Str.Parse.{IsNumeralModel, numerals_by_value, tells_all_ascii_digits}
use Rattle.std.proofs.lemmas.Bool.{cond-true, cond-false, lt-ltb, ltb-true, and_from, and_parts, cases_Bool}
use Rattle.std.proofs.lemmas.Bool.Decides.{nat_tests}
use Rattle.formats.specs.Text.{number_in}
use Rattle.formats.specs.Number.{FrontTo}

pub own : IsNumeralModel (λ ds. all_ascii_digits ds ≡ true) (digits_value 10)
own = numerals_by_value _ tells_all_ascii_digits

pub number_some : (ds : List ℕ) → 0 < length ds → AllDigits 10 ds → number_in ds ≡ Some (digits_value 10 ds)
number_some ds some h = cond-true _ _ _ (and_from _ _ (lt-ltb 0 (length ds) some) (own.from ds h))

pub number_cases : (ds : List ℕ) → (number_in ds ≡ None) ⊎ ((0 < length ds) × AllDigits 10 ds)
number_cases ds =
    ⊎_elim (λ t. let both = and_parts _ _ t in inr (ltb-true 0 (length ds) both.0, own.to ds both.1)) (λ f. inl (cond-false _ _ _ f))
    (cases_Bool (ltb 0 (length ds) && all_ascii_digits ds))

digit_value : (b : ℕ) → IsInRange 48 57 b → digitValue b ≡ b - 48
digit_value b h = grind (arith, nat_tests)

-- one digit more is read
pub digit_more :
    (text ds rest : List ℕ) (n m : ℕ) → text ≡ ds ++ rest → AllDigits 10 ds → min n 1000001 ≡ min (digits_value 10 ds) 1000001 → 0 < length rest → IsInRange 48 57 (get_or rest 0 0) →
    min m 1000001 ≡ min (n * 10 + (get_or rest 0 0 - 48)) 1000001 → FrontTo 1000000 text m (take (length rest - 1) (drop 1 rest))
digit_more text ds rest n m cut all same some is_digit e =
    let b = get_or rest 0 0 in
    let d = digit_value b is_digit in
    let v = digits_value_push 10 ds b in
    record {
      digits = ds ++ (b ∷ []);
      cut =
          cut ∙ ap (λ l. ds ++ l) (drop_more rest 0 0 some) ∙ ap (λ l. ds ++ (b ∷ l)) (sym (take_rest rest 1))
          ∙ sym (append_assoc ds (b ∷ []) (take (length rest - 1) (drop 1 rest)));
      some = simp length-append (omega arith);
      all = digits_push 10 ds b all (omega arith);
      same = omega arith;
    }
