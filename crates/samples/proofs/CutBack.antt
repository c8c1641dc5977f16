-- Runs that went on are cut back to what they were. Assumes nothing.
use Rattle.std.proofs.Common.{◌≡◌, ℕ, suc, ◌-◌, ◌≤◌, List, [], ◌∷◌, ◌++◌, length, take, set, Some, None, Option, sym, refl, ap, ◌∙◌, arith, length-append}
use Rattle.std.proofs.lemmas.List.{length-take-le, nil_from_length}
use Rattle.samples.specs.declared.run.Run.{Run}
use Rattle.samples.specs.Runs.{samples_of, rolled_on, rolled}
use Rattle.samples.specs.Internal.{cut_to}
use Rattle.samples.proofs.Appends.{Last, some_rolled, last_parted, rolled-append}

before_last : (front ms : List Run) (l : Run) → 1 ≤ length ms → set (take (suc (length front)) (front ++ ms)) (length front) l ≡ front ++ (l ∷ [])
before_last [] [] l h = absurd (omega arith)
before_last [] (m ∷ ms) l h = refl
before_last (r ∷ front) ms l h = ap (λ rs. r ∷ rs) (before_last front ms l h)

cut_parted : (front ms : List Run) (l : Run) → 1 ≤ length ms → cut_to (suc (length front)) (Some l) (front ++ ms) ≡ front ++ (l ∷ [])
cut_parted front ms l h =
    let qs = take (suc (length front)) (front ++ ms) in
    let long : length qs ≡ suc (length front) = length-take-le (suc (length front)) (front ++ ms) (omega (arith, length-append front ms)) in
    let at : length qs - 1 ≡ length front = omega (arith, long) in
    ap (λ i. set qs i l) at ∙ before_last front ms l h

pub cut_back : (rs : List Run) (o : Option Run) (ys : List ℕ) → rolled (samples_of rs) ≡ rs → Last rs o → cut_to (length rs) o (rolled (samples_of rs ++ ys)) ≡ rs
cut_back rs None ys packed none = ap (λ n. take n (rolled (samples_of rs ++ ys))) none ∙ sym (nil_from_length rs none)
cut_back rs (Some l) ys packed last =
    let front = take (length rs - 1) rs in
    let parts = last_parted rs l last in
    let at : length rs ≡ suc (length front) = omega (arith, length-take-le (length rs - 1) rs (omega arith), last.0) in
    ap (λ n. cut_to n (Some l) (rolled (samples_of rs ++ ys))) at
    ∙ ap (cut_to (suc (length front)) (Some l)) (rolled-append (samples_of rs) ys front l (packed ∙ parts))
    ∙ cut_parted front (rolled_on l ys) l (some_rolled l ys) ∙ sym parts

-- the same, of a list that is cut back to its first n runs
pub restored :
    (rs now after : List Run) (o : Option Run) (n : ℕ) (ys : List ℕ) → rolled (samples_of rs) ≡ rs → Last rs o → n ≡ length rs →
    now ≡ rolled (samples_of rs ++ ys) → after ≡ cut_to n o now → after ≡ rs
restored rs now after o n ys packed last long grew cut =
    cut ∙ ap (cut_to n o) grew ∙ ap (λ k. cut_to k o (rolled (samples_of rs ++ ys))) long ∙ cut_back rs o ys packed last
