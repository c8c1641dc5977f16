-- Runs go on from their last one. Assumes nothing.
use Rattle.std.proofs.Common.{◌≡◌, ℕ, ◌+◌, ◌-◌, ◌<◌, ◌≤◌, Bool, true, false, cond, List, [], ◌∷◌, ◌++◌, length, get_or, take, set, replicate, Some, None, Option, Bor, MatchOption, sym, refl, ap, ◌∙◌, subst, ⊎_elim, arith, length-append, length-set}
use Rattle.std.specs.Option.{option_map}
use Rattle.std.specs.Slice.{IsGetResult}
use Rattle.std.proofs.lemmas.List.{append-nil, append_assoc, take_all, take_more, length-take-le, get_or_default, set_at, same_from_push}
use Rattle.std.proofs.lemmas.Bool.{cond_both, cases_lt}
use Rattle.samples.specs.declared.run.Run.{Run}
use Rattle.samples.specs.Runs.{samples_of, run, takes_in, rolled_on, rolled}
use Rattle.samples.proofs.Rolled.{rolled-gives}
use Rattle.samples.proofs.Steps.{begun}

pub some_rolled : (r : Run) (xs : List ℕ) → 1 ≤ length (rolled_on r xs)
some_rolled r [] = omega arith
some_rolled r (x ∷ xs) = cond_both (takes_in r x) _ _ (λ rs. 1 ≤ length rs) (λ _. some_rolled (run r.sample (r.count + 1)) xs) (λ _. omega arith)

-- a first run before others, of which there are some, is not the last
not_last : (r l : Run) (rs more front : List Run) (ms : List Run) → 1 ≤ length rs → r ∷ rs ≡ front ++ (l ∷ []) → ((qs : List Run) → rs ≡ qs ++ (l ∷ []) → more ≡ qs ++ ms) → r ∷ more ≡ front ++ ms
not_last r l rs more [] ms h e on = absurd (omega (arith, ap length e))
not_last r l rs more (q ∷ qs) ms h e on =
    let same : r ≡ q = cc in
    let rest : rs ≡ qs ++ (l ∷ []) = cc in
    (λ i. same i ∷ on qs rest i)

on_append : (r l : Run) (xs ys : List ℕ) (front : List Run) → rolled_on r xs ≡ front ++ (l ∷ []) → rolled_on r (xs ++ ys) ≡ front ++ rolled_on l ys
on_append r l [] ys front e = let p = same_from_push [] front r l e in (λ i. p.0 i ++ rolled_on (p.1 i) ys)
on_append r l (x ∷ xs) ys front e =
    elim (takes_in r x) as
    (λ b.
    cond b (rolled_on (run r.sample (r.count + 1)) xs) (r ∷ rolled_on (run x 1) xs) ≡ front ++ (l ∷ []) →
    cond b (rolled_on (run r.sample (r.count + 1)) (xs ++ ys)) (r ∷ rolled_on (run x 1) (xs ++ ys)) ≡ front ++ rolled_on l ys) [
      | true ↦ (λ f. on_append (run r.sample (r.count + 1)) l xs ys front f)
      | false ↦ (λ f. not_last r l (rolled_on (run x 1) xs) (rolled_on (run x 1) (xs ++ ys)) front (rolled_on l ys) (some_rolled (run x 1) xs) f (λ qs g. on_append (run x 1) l xs ys qs g))
    ]
    e

pub rolled-append : (ss ys : List ℕ) (front : List Run) (l : Run) → rolled ss ≡ front ++ (l ∷ []) → rolled (ss ++ ys) ≡ front ++ rolled_on l ys
rolled-append [] ys front l e = absurd (omega (arith, ap length e, length-append front (l ∷ [])))
rolled-append (x ∷ xs) ys front l e = on_append (run x 1) l xs ys front e

-- what was rolled stays when it is rolled again
pub rolled-again : (rs : List Run) (ss : List ℕ) → rs ≡ rolled ss → rolled (samples_of rs) ≡ rs
rolled-again rs ss e = ap (λ qs. rolled (samples_of qs)) e ∙ ap rolled (rolled-gives ss) ∙ sym e

-- the last of some runs, if there is one
abbrev pub Last : List Run → Option Run → Type 0
Last rs o = MatchOption o (length rs ≡ 0) (λ l. (0 < length rs) × (l ≡ get_or rs (length rs - 1) l))

pub last_is : (rs : List Run) (r : Option (Bor Run)) → IsGetResult rs 0 (length rs - 1) r → Last rs (option_map (λ x. x.now) r)
last_is rs None h = omega (arith, h.3)
last_is rs (Some x) h = (h.3.0, h.1)

-- what `last` and `copied` have answered of a list that is seen as a slice
pub last_found :
    (rs slice : List Run) (r : Option (Bor Run)) (o : Option Run) → slice ≡ rs → IsGetResult slice 0 (length slice - 1) r → o ≡ option_map (λ x. x.now) r → Last rs o
last_found rs slice r o same item copied = subst (Last rs) (sym copied) (last_is rs r (subst (λ l. IsGetResult l 0 (length l - 1) r) same item))

pub last_parted : (rs : List Run) (l : Run) → Last rs (Some l) → rs ≡ take (length rs - 1) rs ++ (l ∷ [])
last_parted rs l last =
    let n = length rs - 1 in sym (take_all (n + 1) rs (omega arith)) ∙ take_more rs n l (omega (arith, last.0)) ∙ ap (λ r. take n rs ++ (r ∷ [])) (sym last.1)

-- the last of n runs gives way to what it and more samples come to
pub last_replaced :
    (rs more extra : List Run) (n : ℕ) (l a : Run) (ys : List ℕ) → rolled (samples_of rs) ≡ rs → n ≡ length rs → Last rs (Some l) → more ≡ rs ++ extra →
    a ∷ extra ≡ rolled_on l ys → set more (n - 1) a ≡ rolled (samples_of rs ++ ys)
last_replaced rs more extra n l a ys packed long last grows joined =
    let front = take (length rs - 1) rs in
    let parts = last_parted rs l last in
    ap (λ qs. set qs (n - 1) a) (grows ∙ ap (λ qs. qs ++ extra) parts ∙ append_assoc front (l ∷ []) extra)
    ∙ set_at front l extra a (n - 1) (length-take-le (length rs - 1) rs (omega arith) ∙ ap (λ k. k - 1) (sym long))
    ∙ ap (λ qs. front ++ qs) joined ∙ sym (rolled-append (samples_of rs) ys front l (packed ∙ parts))

-- a first run
pub first_pushed : (rs after : List Run) (x n : ℕ) → Last rs None → 1 ≤ n → n ≤ 65535 → after ≡ rs ++ (run x n ∷ []) → after ≡ rolled (samples_of rs ++ replicate n x)
first_pushed [] after x n none l h e = e ∙ sym (ap rolled (sym (append-nil (replicate n x))) ∙ begun x n [] l h tt)
first_pushed (r ∷ rs) after x n none l h e = absurd (omega arith)

-- a first run, if memory was found for it
pub first_or_none :
    (b : Bool) (rs after : List Run) (x n : ℕ) → Last rs None → 1 ≤ n → n ≤ 65535 → after ≡ cond b (rs ++ (run x n ∷ [])) rs → rolled (samples_of rs) ≡ rs →
    rolled (samples_of after) ≡ after
first_or_none true rs after x n none l h e packed = rolled-again after (samples_of rs ++ replicate n x) (first_pushed rs after x n none l h e)
first_or_none false rs after x n none l h e packed = rolled-again after (samples_of rs) (e ∙ sym packed)

-- MORE RUNS

-- how many runs there are then
pub last_counted :
    (rs extra : List Run) (l a : Run) (ys : List ℕ) → rolled (samples_of rs) ≡ rs → Last rs (Some l) → a ∷ extra ≡ rolled_on l ys →
    length (rolled (samples_of rs ++ ys)) ≡ length rs + length extra
last_counted rs extra l a ys packed last joined =
    ap length (sym (last_replaced rs (rs ++ extra) extra (length rs) l a ys packed refl last refl joined)) ∙ length-set (rs ++ extra) (length rs - 1) a
    ∙ length-append rs extra

pub first_counted : (rs : List Run) (x n : ℕ) → Last rs None → 1 ≤ n → n ≤ 65535 → length (rolled (samples_of rs ++ replicate n x)) ≡ 1
first_counted rs x n none l h = ap length (sym (first_pushed rs (rs ++ (run x n ∷ [])) x n none l h refl)) ∙ length-append rs (run x n ∷ []) ∙ ap (λ k. k + 1) none

some_more : (rs : List Run) (ss ys : List ℕ) → rolled ss ≡ rs → 1 ≤ length rs → length rs ≤ length (rolled (ss ++ ys))
some_more rs ss ys e some =
    let n = length rs - 1 in
    let l = get_or rs n (run 0 0) in
    let within : n < length rs = omega arith in
    let parts = last_parted rs l (some, get_or_default rs n (run 0 0) l within) in
    let count : length rs ≡ length (take n rs) + 1 = ap length parts ∙ length-append (take n rs) (l ∷ []) in
    let all = ap length (rolled-append ss ys (take n rs) l (e ∙ parts)) ∙ length-append (take n rs) (rolled_on l ys) in
    omega (arith, count, all, some_rolled l ys)

pub more_runs : (ss ys : List ℕ) → length (rolled ss) ≤ length (rolled (ss ++ ys))
more_runs ss ys =
    ⊎_elim (λ some. some_more (rolled ss) ss ys refl some) (λ none. omega arith) (cases_lt 0 (length (rolled ss)))
