-- Which outputs lie within a piece of the inputs. Assumes nothing.
use Rattle.std.proofs.Common.{◌≡◌, ℕ, ◌+◌, ◌<◌, ◌≤◌, Bool, true, false, cond, ◌&&◌, ltb, leb, List, [], ◌∷◌, ◌++◌, length, Some, None, Option, refl, ap, ◌∙◌, arith}
use Rattle.std.specs.Option.{option_map}
use Rattle.std.proofs.lemmas.List.{append-nil}
use Rattle.std.proofs.lemmas.Bool.{le-leb, lt-leb, lt-ltb, le-ltb, cond-true, cond-false, and_from, and_left, and_right}
use Rattle.decoder.specs.Machine.{run, before, outputs_at, placed_within}
use Rattle.decoder.proofs.Cut.{placed_append}

one_append : {X : Type 0} (b : Bool) (o : X) (us vs : List X) → cond b (o ∷ (us ++ vs)) (us ++ vs) ≡ cond b (o ∷ us) us ++ vs
one_append true o us vs = refl
one_append false o us vs = refl

within_append : {O : Type 0} (p q : ℕ) (xs ys : List (ℕ × O)) → placed_within p q (xs ++ ys) ≡ placed_within p q xs ++ placed_within p q ys
within_append p q [] ys = refl
within_append p q (x ∷ xs) ys =
    ap (λ l. cond (leb p x.0 && ltb x.0 q) (x ∷ l) l) (within_append p q xs ys)
    ∙ one_append (leb p x.0 && ltb x.0 q) x (placed_within p q xs) (placed_within p q ys)

module _ {S X O : Type 0} (step : S → X → S) (emit : S → X → Option O) (p q : ℕ) where
  one_within :
      (n : ℕ) (o : Option O) (ps : List (ℕ × O)) → p ≤ n → n < q →
      placed_within p q (before (option_map (λ v. (n, v)) o) ps) ≡ before (option_map (λ v. (n, v)) o) (placed_within p q ps)
  one_within n None ps low high = refl
  one_within n (Some o) ps low high = cond-true _ _ _ (and_from _ _ (le-leb p n low) (lt-ltb n q high))

  one_outside : (n : ℕ) (o : Option O) (ps : List (ℕ × O)) → (leb p n && ltb n q) ≡ false → placed_within p q (before (option_map (λ v. (n, v)) o) ps) ≡ placed_within p q ps
  one_outside n None ps out = refl
  one_outside n (Some o) ps out = cond-false _ _ _ out

  -- inputs from p on and before q
  inside : (n : ℕ) (s : S) (xs : List X) → p ≤ n → n + length xs ≤ q → placed_within p q (outputs_at step emit n s xs) ≡ outputs_at step emit n s xs
  inside n s [] low high = refl
  inside n s (x ∷ xs) low high =
      one_within n (emit s x) (outputs_at step emit (n + 1) (step s x) xs) low (omega arith)
      ∙ ap (before (option_map (λ v. (n, v)) (emit s x))) (inside (n + 1) (step s x) xs (omega arith) (omega arith))

  -- inputs before p
  too_early : (n : ℕ) (s : S) (xs : List X) → n + length xs ≤ p → placed_within p q (outputs_at step emit n s xs) ≡ []
  too_early n s [] early = refl
  too_early n s (x ∷ xs) early =
      let out : leb p n ≡ false = lt-leb p n (omega arith) in
      one_outside n (emit s x) (outputs_at step emit (n + 1) (step s x) xs) (and_left _ _ out) ∙ too_early (n + 1) (step s x) xs (omega arith)

  -- inputs from q on
  too_late : (n : ℕ) (s : S) (xs : List X) → q ≤ n → placed_within p q (outputs_at step emit n s xs) ≡ []
  too_late n s [] late = refl
  too_late n s (x ∷ xs) late =
      let out : ltb n q ≡ false = le-ltb n q late in
      one_outside n (emit s x) (outputs_at step emit (n + 1) (step s x) xs) (and_right _ _ out)
      ∙ too_late (n + 1) (step s x) xs (omega arith)

-- the outputs within a piece are those of the machine as it came to the piece
pub piece_within :
    {S X O : Type 0} (step : S → X → S) (emit : S → X → Option O) (s : S) (xs ys zs : List X) →
    placed_within (length xs) (length xs + length ys) (outputs_at step emit 0 s (xs ++ (ys ++ zs))) ≡ outputs_at step emit (length xs) (run step s xs) ys
piece_within step emit s xs ys zs =
    let p = length xs in
    let q = length xs + length ys in
    let t = run step s xs in
    let here = outputs_at step emit 0 s xs in
    let later = outputs_at step emit p t ys in
    let last = outputs_at step emit q (run step t ys) zs in
    let z : 0 + length xs ≡ length xs = omega arith in
    ap (placed_within p q) (placed_append step emit 0 s xs (ys ++ zs) ∙ ap (λ n. here ++ outputs_at step emit n t (ys ++ zs)) z ∙ ap (λ l. here ++ l) (placed_append step emit p t ys zs))
    ∙ within_append p q here (later ++ last) ∙ ap (λ l. l ++ placed_within p q (later ++ last)) (too_early step emit p q 0 s xs (omega arith))
    ∙ within_append p q later last
    ∙ ap (λ l. l ++ placed_within p q last) (inside step emit p q p t ys (omega arith) (omega arith))
    ∙ ap (λ l. later ++ l) (too_late step emit p q q (run step t ys) zs (omega arith)) ∙ append-nil later
