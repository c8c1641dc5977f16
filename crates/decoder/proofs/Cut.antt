-- Wherever inputs are cut, a machine comes to the same; and one step of a loop over its inputs. Assumes nothing.
use Rattle.std.proofs.Common.{◌≡◌, ℕ, suc, ◌+◌, ◌*◌, ◌≤◌, List, [], ◌∷◌, ◌++◌, map, length, Some, None, Option, refl, ap, ◌∙◌, suc-mul, mul-le-mul_right, arith, length-append}
use Rattle.std.specs.List.{flat_map}
use Rattle.std.specs.Option.{option_map}
use Rattle.decoder.specs.Machine.{run, before, outputs, counting, placing, outputs_at}
use Rattle.decoder.specs.Reading.{numbers_read, MachineIsCut}

before-append : {O : Type 0} (o : Option O) (xs ys : List O) → before o (xs ++ ys) ≡ before o xs ++ ys
before-append None xs ys = refl
before-append (Some o) xs ys = refl

module _ {S X O : Type 0} (step : S → X → S) (emit : S → X → Option O) where
  pub run-append : (s : S) (xs ys : List X) → run step s (xs ++ ys) ≡ run step (run step s xs) ys
  run-append s [] ys = refl
  run-append s (x ∷ xs) ys = run-append (step s x) xs ys

  pub outputs-append : (s : S) (xs ys : List X) → outputs step emit s (xs ++ ys) ≡ outputs step emit s xs ++ outputs step emit (run step s xs) ys
  outputs-append s [] ys = refl
  outputs-append s (x ∷ xs) ys =
      ap (before (emit s x)) (outputs-append (step s x) xs ys)
      ∙ before-append (emit s x) (outputs step emit (step s x) xs) (outputs step emit (run step (step s x) xs) ys)

-- PLACES

module _ {S X O : Type 0} (step : S → X → S) (emit : S → X → Option O) where
  pub counted : (n : ℕ) (s : S) (xs : List X) → run (counting step) (n, s) xs ≡ (n + length xs, run step s xs)
  counted n s [] = let e : n ≡ n + 0 = omega arith in ap (λ m. (m, s)) e
  counted n s (x ∷ xs) =
      let e : n + 1 + length xs ≡ n + length (x ∷ xs) = omega arith in
      counted (n + 1) (step s x) xs ∙ ap (λ m. (m, run step (step s x) xs)) e

  one_unplaced : (n : ℕ) (o : Option O) (ps : List (ℕ × O)) → before o (map (λ p. p.1) ps) ≡ map (λ p. p.1) (before (option_map (λ v. (n, v)) o) ps)
  one_unplaced n None ps = refl
  one_unplaced n (Some o) ps = refl

  pub unplaced : (n : ℕ) (s : S) (xs : List X) → outputs step emit s xs ≡ map (λ p. p.1) (outputs_at step emit n s xs)
  unplaced n s [] = refl
  unplaced n s (x ∷ xs) =
      ap (before (emit s x)) (unplaced (n + 1) (step s x) xs) ∙ one_unplaced n (emit s x) (outputs_at step emit (n + 1) (step s x) xs)

  pub placed_append :
      (n : ℕ) (s : S) (xs ys : List X) →
      outputs_at step emit n s (xs ++ ys) ≡ outputs_at step emit n s xs ++ outputs_at step emit (n + length xs) (run step s xs) ys
  placed_append n s xs ys =
      outputs-append (counting step) (placing emit) (n, s) xs ys
      ∙ ap (λ c. outputs_at step emit n s xs ++ outputs (counting step) (placing emit) c ys) (counted n s xs)

  pub machine_is_cut : MachineIsCut step emit
  machine_is_cut n s xs ys = (run-append step emit s xs ys, placed_append n s xs ys, unplaced n s xs)

-- HOW MANY

module _ {S X O : Type 0} (step : S → X → S) (emit : S → X → Option O) where
  -- at most one output at each input
  before-few : (o : Option O) (os : List O) → length (before o os) ≤ suc (length os)
  before-few None os = omega arith
  before-few (Some o) os = omega arith

  pub outputs-few : (s : S) (xs : List X) → length (outputs step emit s xs) ≤ length xs
  outputs-few s [] = omega arith
  outputs-few s (x ∷ xs) =
      let on = outputs-few (step s x) xs in
      let one = before-few (emit s x) (outputs step emit (step s x) xs) in
      omega (arith, on, one)

pub length-joined : {O : Type 0} (encoded : O → List ℕ) (width : ℕ) → ((o : O) → length (encoded o) ≡ width) → (os : List O) → length (flat_map encoded os) ≡ length os * width
length-joined encoded width sized [] = omega arith
length-joined encoded width sized (o ∷ os) =
    let on = length-joined encoded width sized os in
    length-append (encoded o) (flat_map encoded os) ∙ omega (arith, on, sized o, suc-mul (length os) width)

module _ {S O : Type 0} (step : S → ℕ → S) (emit : S → ℕ → Option O) (encoded : O → List ℕ) (width : ℕ) (sized : (o : O) → length (encoded o) ≡ width) where
  pub length-numbers : (s : S) (xs : List ℕ) → length (numbers_read step emit encoded s xs) ≡ length (outputs step emit s xs) * width
  length-numbers s xs = length-joined encoded width sized (outputs step emit s xs)

  pub numbers-few : (s : S) (xs : List ℕ) → length (numbers_read step emit encoded s xs) ≤ length xs * width
  numbers-few s xs = rw (length-numbers s xs) (mul-le-mul_right width (outputs-few step emit s xs))
