-- The runs of `rolled` are well-formed, give the samples back, and none could take in the next one. Assumes nothing.
use Rattle.std.proofs.Common.{◌≡◌, ℕ, ◌+◌, ◌<◌, ◌≤◌, true, false, eqb, ltb, ◌⊎◌, List, [], ◌∷◌, ◌++◌, replicate, sym, refl, ap, ◌∙◌, inl, inr, ⊎_elim, append_assoc, arith}
use Rattle.std.proofs.lemmas.List.{replicate_more}
use Rattle.std.proofs.lemmas.Bool.{cond_both, and_parts, and_cases, eqb-true, eqb-false, ltb-true, ltb-false}
use Rattle.samples.specs.declared.run.Run.{Run}
use Rattle.samples.specs.Runs.{samples_of, WellFormed, run, takes_in, rolled_on, rolled}

-- r is full, or the run after it has another sample
abbrev pub Apart : Run → List Run → Type 0
Apart r [] = Unit {0}
Apart r (q ∷ qs) = (r.count ≡ 65535) ⊎ (q.sample ≡ r.sample → ⊥)

abbrev pub Packed : List Run → Type 0
Packed [] = Unit {0}
Packed (r ∷ rs) = Apart r rs × Packed rs

-- the first run has this sample
abbrev Begins : ℕ → List Run → Type 0
Begins x [] = ⊥
Begins x (r ∷ rs) = r.sample ≡ x

taken_in : (r : Run) (x : ℕ) → takes_in r x ≡ true → (x ≡ r.sample) × (r.count < 65535)
taken_in r x t =
    let both = and_parts (eqb x r.sample) (ltb r.count 65535) t in (eqb-true x r.sample both.0, ltb-true r.count 65535 both.1)

one_more : (r : Run) (x : ℕ) (xs : List ℕ) → x ≡ r.sample → replicate (r.count + 1) r.sample ++ xs ≡ replicate r.count r.sample ++ (x ∷ xs)
one_more r x xs e =
    ap (λ l. l ++ xs) (sym (replicate_more r.count r.sample)) ∙ append_assoc (replicate r.count r.sample) (r.sample ∷ []) xs
    ∙ ap (λ y. replicate r.count r.sample ++ (y ∷ xs)) (sym e)

pub rolled_on-gives : (r : Run) (xs : List ℕ) → samples_of (rolled_on r xs) ≡ replicate r.count r.sample ++ xs
rolled_on-gives r [] = refl
rolled_on-gives r (x ∷ xs) =
    cond_both (takes_in r x) _ _ (λ rs. samples_of rs ≡ replicate r.count r.sample ++ (x ∷ xs))
    (λ t. rolled_on-gives (run r.sample (r.count + 1)) xs ∙ one_more r x xs (taken_in r x t).0)
    (λ _. ap (λ l. replicate r.count r.sample ++ l) (rolled_on-gives (run x 1) xs))

pub rolled-gives : (ss : List ℕ) → samples_of (rolled ss) ≡ ss
rolled-gives [] = refl
rolled-gives (x ∷ xs) = rolled_on-gives (run x 1) xs

rolled_on-formed : (r : Run) (xs : List ℕ) → 1 ≤ r.count → r.count ≤ 65535 → WellFormed (rolled_on r xs)
rolled_on-formed r [] l h = (l, h, tt)
rolled_on-formed r (x ∷ xs) l h =
    cond_both (takes_in r x) _ _ WellFormed
    (λ t. let fits = taken_in r x t in rolled_on-formed (run r.sample (r.count + 1)) xs (omega arith) (omega arith))
    (λ _. (l, h, rolled_on-formed (run x 1) xs (omega arith) (omega arith)))

pub rolled-formed : (ss : List ℕ) → WellFormed (rolled ss)
rolled-formed [] = tt
rolled-formed (x ∷ xs) = rolled_on-formed (run x 1) xs (omega arith) (omega arith)

rolled_on-begins : (r : Run) (xs : List ℕ) → Begins r.sample (rolled_on r xs)
rolled_on-begins r [] = refl
rolled_on-begins r (x ∷ xs) = cond_both (takes_in r x) _ _ (Begins r.sample) (λ _. rolled_on-begins (run r.sample (r.count + 1)) xs) (λ _. refl)

apart : (r : Run) (x : ℕ) (rs : List Run) → r.count ≤ 65535 → takes_in r x ≡ false → Begins x rs → Apart r rs
apart r x [] h f b = tt
apart r x (q ∷ qs) h f b =
    ⊎_elim (λ e. inr (λ same. eqb-false x r.sample e (sym b ∙ same))) (λ e. inl (omega (arith, ltb-false r.count 65535 e)))
    (and_cases (eqb x r.sample) (ltb r.count 65535) f)

rolled_on-packed : (r : Run) (xs : List ℕ) → r.count ≤ 65535 → Packed (rolled_on r xs)
rolled_on-packed r [] h = (tt, tt)
rolled_on-packed r (x ∷ xs) h =
    cond_both (takes_in r x) _ _ Packed
    (λ t. let fits = taken_in r x t in rolled_on-packed (run r.sample (r.count + 1)) xs (omega arith))
    (λ f. (apart r x (rolled_on (run x 1) xs) h f (rolled_on-begins (run x 1) xs), rolled_on-packed (run x 1) xs (omega arith)))

pub rolled-packed : (ss : List ℕ) → Packed (rolled ss)
rolled-packed [] = tt
rolled-packed (x ∷ xs) = rolled_on-packed (run x 1) xs (omega arith)
