-- `rolled` goes on run by run. Assumes nothing.
use Rattle.std.proofs.Common.{◌≡◌, ℕ, zero, suc, ◌+◌, ◌-◌, ◌<◌, ◌≤◌, min, eqb, false, List, [], ◌∷◌, ◌++◌, length, get_or, take, drop, replicate, sym, refl, ap, ◌∙◌, subst, arith}
use Rattle.std.specs.List.{prefix_len}
use Rattle.std.proofs.lemmas.List.{append-nil, replicate-append-replicate, take_min, take_at}
use Rattle.std.proofs.lemmas.Bool.{cond-true, cond-false, cond_both, and_from, and_left, and_right, eq-eqb, ne_eqb, lt-ltb, le-ltb}
use Rattle.samples.specs.declared.run.Run.{Run}
use Rattle.samples.specs.Runs.{run, takes_in, rolled_on, rolled}

-- the run does not take in the next sample
abbrev pub Ends : Run → List ℕ → Type 0
Ends r [] = Unit {0}
Ends r (x ∷ xs) = takes_in r x ≡ false

pub ends_full : (r : Run) (xs : List ℕ) → 65535 ≤ r.count → Ends r xs
ends_full r [] h = tt
ends_full r (x ∷ xs) h = and_right _ _ (le-ltb r.count 65535 h)

pub ends_other : (r : Run) (x : ℕ) (xs : List ℕ) → (x ≡ r.sample → ⊥) → Ends r (x ∷ xs)
ends_other r x xs h = and_left _ _ (ne_eqb x r.sample h)

ends_replicate : (r : Run) (x n : ℕ) → (x ≡ r.sample → ⊥) → Ends r (replicate n x)
ends_replicate r x zero h = tt
ends_replicate r x (suc n) h = ends_other r x (replicate n x) h

pub ended : (r : Run) (xs : List ℕ) → Ends r xs → rolled_on r xs ≡ r ∷ rolled xs
ended r [] e = refl
ended r (x ∷ xs) e = cond-false _ _ _ e

pub grown : (r : Run) (n : ℕ) (xs : List ℕ) → r.count + n ≤ 65535 → rolled_on r (replicate n r.sample ++ xs) ≡ rolled_on (run r.sample (r.count + n)) xs
grown r zero xs h = ap (λ n. rolled_on (run r.sample n) xs) (omega arith)
grown r (suc n) xs h =
    cond-true _ _ _ (and_from _ _ (eq-eqb r.sample r.sample refl) (lt-ltb r.count 65535 (omega arith)))
    ∙ grown (run r.sample (r.count + 1)) n xs (omega arith) ∙ ap (λ n. rolled_on (run r.sample n) xs) (omega arith)

-- samples that begin with a run begin so when they are rolled
pub begun : (x n : ℕ) (xs : List ℕ) → 1 ≤ n → n ≤ 65535 → Ends (run x n) xs → rolled (replicate n x ++ xs) ≡ run x n ∷ rolled xs
begun x zero xs l h e = absurd (omega arith)
begun x (suc n) xs l h e = grown (run x 1) n xs (omega arith) ∙ ap (λ m. rolled_on (run x m) xs) (omega arith) ∙ ended (run x (suc n)) xs e

-- JOINING TWO RUNS

pub join_other : (r q : Run) → 1 ≤ q.count → q.count ≤ 65535 → (q.sample ≡ r.sample → ⊥) → r ∷ (q ∷ []) ≡ rolled_on r (replicate q.count q.sample)
join_other r q l h other =
    let alone = ap rolled (sym (append-nil (replicate q.count q.sample))) ∙ begun q.sample q.count [] l h tt in
    ap (λ rs. r ∷ rs) (sym alone) ∙ sym (ended r (replicate q.count q.sample) (ends_replicate r q.sample q.count other))

pub join_within : (r q : Run) → r.count + q.count ≤ 65535 → q.sample ≡ r.sample → run r.sample (r.count + q.count) ∷ [] ≡ rolled_on r (replicate q.count q.sample)
join_within r q h same =
    sym (ap (λ x. rolled_on r (replicate q.count x)) same ∙ ap (rolled_on r) (sym (append-nil (replicate q.count r.sample))) ∙ grown r q.count [] h)

pub join_past :
    (r q : Run) → r.count ≤ 65535 → q.count ≤ 65535 → 65535 < r.count + q.count → q.sample ≡ r.sample →
    run r.sample 65535 ∷ (run r.sample (q.count - (65535 - r.count)) ∷ []) ≡ rolled_on r (replicate q.count q.sample)
join_past r q h k over same =
    let free = 65535 - r.count in
    let rest = q.count - (65535 - r.count) in
    let full = run r.sample 65535 in
    sym
    (ap (λ x. rolled_on r (replicate q.count x)) same
    ∙ ap (λ n. rolled_on r (replicate n r.sample)) (omega arith)
    ∙ ap (rolled_on r) (sym (replicate-append-replicate free rest r.sample))
    ∙ grown r free (replicate rest r.sample) (omega arith)
    ∙ ap (λ n. rolled_on (run r.sample n) (replicate rest r.sample)) (omega arith)
    ∙ ended full (replicate rest r.sample) (ends_full full (replicate rest r.sample) (omega arith))
    ∙ ap (λ xs. full ∷ rolled xs) (sym (append-nil (replicate rest r.sample)))
    ∙ ap (λ rs. full ∷ rs) (begun r.sample rest [] (omega arith) (omega arith) tt))

-- THE RUN AT THE FRONT

-- how many of some samples from the front on equal x
abbrev pub alike : ℕ → List ℕ → ℕ
alike x xs = prefix_len (λ y. eqb y x) xs

-- a run takes in the samples that equal its own, up to the m that it has room for
taken_on : (x n m : ℕ) (xs : List ℕ) → n + m ≡ 65535 → rolled_on (run x n) xs ≡ run x (n + alike x (take m xs)) ∷ rolled (drop (alike x (take m xs)) xs)
taken_on x n zero xs h = ended (run x n) xs (ends_full (run x n) xs (omega arith)) ∙ ap (λ k. run x k ∷ rolled xs) (omega arith)
taken_on x n (suc m) [] h = ap (λ k. run x k ∷ []) (omega arith)
taken_on x n (suc m) (y ∷ ys) h =
    let more = alike x (take m ys) in
    let one : suc more ≡ 1 + more = omega arith in
    let long : n + 1 + more ≡ n + suc more = omega arith in
    cond_both (eqb y x) (1 + more) 0 (λ k. rolled_on (run x n) (y ∷ ys) ≡ run x (n + k) ∷ rolled (drop k (y ∷ ys)))
    (λ e.
    cond-true _ _ _ (and_from _ _ e (lt-ltb n 65535 (omega arith))) ∙ taken_on x (n + 1) m ys (omega arith)
    ∙ ap (λ k. run x k ∷ rolled (drop more ys)) long ∙ ap (λ k. run x (n + k) ∷ rolled (drop k (y ∷ ys))) one)
    (λ e. ended (run x n) (y ∷ ys) (and_left _ _ e) ∙ ap (λ k. run x k ∷ rolled (y ∷ ys)) (omega arith))

-- samples begin with a run of those that equal the first
first_alike : (xs : List ℕ) (n : ℕ) → 0 < length xs → n ≡ alike (get_or xs 0 0) (take 65535 xs) → rolled xs ≡ run (get_or xs 0 0) n ∷ rolled (drop n xs)
first_alike [] n h e = absurd (omega arith)
first_alike (x ∷ xs) n h e =
    let more = alike x (take 65534 xs) in
    let one : suc more ≡ n = omega (arith, e, cond-true (eqb x x) (1 + more) 0 (eq-eqb x x refl)) in
    let long : 1 + more ≡ suc more = omega arith in
    taken_on x 1 65534 xs (omega arith) ∙ ap (λ k. run x k ∷ rolled (drop more xs)) long ∙ ap (λ k. run x k ∷ rolled (drop k (x ∷ xs))) one

-- the same, where `most` is the front in which they are counted
pub first_taken :
    (xs most rest : List ℕ) (n : ℕ) → xs ≡ most ++ rest → length most ≡ min 65535 (length xs) → 0 < length xs → n ≡ alike (get_or most 0 0) most →
    rolled xs ≡ run (get_or most 0 0) n ∷ rolled (drop n xs)
first_taken [] most rest n parts long h e = absurd (omega arith)
first_taken (x ∷ xs) most rest n parts long h e =
    let front : take 65535 (x ∷ xs) ≡ most = sym (take_min 65535 (x ∷ xs)) ∙ ap (take (min 65535 (length (x ∷ xs)))) parts ∙ take_at most rest _ long in
    subst (λ ys. n ≡ alike (get_or ys 0 0) ys → rolled (x ∷ xs) ≡ run (get_or ys 0 0) n ∷ rolled (drop n (x ∷ xs))) front (first_alike (x ∷ xs) n h) e
