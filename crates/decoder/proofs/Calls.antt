-- Which case an answer is, what an answer says, and that two calls read what one call reads. Assumes nothing.
use Rattle.std.proofs.Common.{◌≡◌, ℕ, ◌+◌, ◌*◌, ◌≤◌, true, leb, List, [], ◌∷◌, ◌++◌, length, take, Ok, Err, Option, Result, sym, refl, ap, ◌∙◌, subst, arith, length-append}
use Rattle.std.specs.List.{flat_map}
use Rattle.std.proofs.lemmas.Grind.{flat_map-append}
use Rattle.std.proofs.lemmas.List.{take_at}
use Rattle.std.proofs.lemmas.Bool.{cond_both, le-leb, leb-true}
use Rattle.samples.specs.declared.refusal.Refusal.{Refusal}
use Rattle.samples.specs.declared.refusal.Refusal.TheVariants.{Memory, Samples, Room}
use Rattle.samples.specs.Roll.{filled}
use Rattle.decoder.specs.Machine.{run, outputs}
use Rattle.decoder.specs.Reading.{After, refused, numbers_read, read_all, reading, TwoReadAsOne, LeftIsTakenBack, CutIsRead, call_with}
use Rattle.decoder.proofs.Cut.{run-append, outputs-append, length-numbers}

module _ {S O : Type 0} (step : S → ℕ → S) (emit : S → ℕ → Option O) (encoded : O → List ℕ) (saved : S → List ℕ) (samples memory room : List ℕ) where
  abbrev call : Result S ℕ → After
  call t = reading step emit encoded saved t samples memory room

  abbrev numbers : S → List ℕ
  numbers s = numbers_read step emit encoded s samples

  -- all is read
  pub reads : (t : Result S ℕ) (s : S) → t ≡ Ok s → length samples ≤ 65535 → leb (length (numbers s)) (length room) ≡ true → call t ≡ read_all step emit encoded saved s samples room
  reads t s e h fits = rw (e, le-leb (length samples) 65535 h, fits)

  -- of what a call answered from a restored memory, case by case
  answered :
      (s : S) (P : After → Type 0) →
      (length samples ≤ 65535 → length (numbers s) ≤ length room → P (read_all step emit encoded saved s samples room)) → ((f : Refusal) → ((p : ℕ) → f ≡ Memory p → ⊥) → P (refused f memory room)) →
      P (call (Ok s))
  answered s P all not =
      cond_both (leb (length samples) 65535) _ _ P
      (λ few. cond_both (leb (length (numbers s)) (length room)) _ _ P (λ fits. all (leb-true _ _ few) (leb-true _ _ fits)) (λ _. not (Room (length room)) (λ p e. cc)))
      (λ _. not (Samples 65535) (λ p e. cc))

  -- what it says of a call that something was read
  pub record HasRead (t : Result S ℕ) (n : ℕ) : Type 0 where
    pub reader : S
    pub restored : t ≡ Ok reader
    pub few : length samples ≤ 65535
    pub fits : length (numbers reader) ≤ length room
    pub many : n ≡ length (outputs step emit reader samples)
    pub all : call t ≡ read_all step emit encoded saved reader samples room

  pub has_read : (t : Result S ℕ) (n : ℕ) → (call t).answer ≡ Ok n → HasRead t n
  has_read (Err p) n = λ e. absurd cc
  has_read (Ok s) n =
      answered s (λ a. a.answer ≡ Ok n → HasRead (Ok s) n)
      (λ few fits e. record { reader = s; restored = refl; few = few; fits = fits; many = cc; all = reads (Ok s) s refl few (le-leb _ _ fits) })
      (λ f _ e. absurd cc)

  -- where a memory was restored it is not refused
  pub not_memory : (t : Result S ℕ) (s : S) (p : ℕ) → t ≡ Ok s → (call t).answer ≡ Err (Memory p) → ⊥
  not_memory t s p is e =
      answered s (λ a. a.answer ≡ Err (Memory p) → ⊥) (λ _ _ e. cc) (λ f other e. other p cc) (ap (λ u. (call u).answer) (sym is) ∙ e)

-- A READER GOES ON FROM WHAT IT LEFT

module _ {R S : Type 0} (state : R → S) (step : S → ℕ → S) (size : ℕ) (saved : S → List ℕ) (restored : S → List ℕ → Result S ℕ)
    (goes_on : (r : R) (x : ℕ) → (q : R) × (state q ≡ step (state r) x))
    (opens : (r : R) (s : S) (m : List ℕ) → restored (state r) m ≡ Ok s → ((q : R) × (state q ≡ s)) × (length m ≡ size) × ((n : List ℕ) → restored s n ≡ restored (state r) n))
    (back : (r : R) → restored (state r) (saved (state r)) ≡ Ok (state r))
    (same : (s : S) (x : ℕ) (m : List ℕ) → restored (step s x) m ≡ restored s m) where
  -- a reader after samples
  reader_after : (r : R) (s : S) (xs : List ℕ) → state r ≡ s → (q : R) × (state q ≡ run step s xs)
  reader_after r s [] e = (r, e)
  reader_after r s (x ∷ xs) e =
      let on = goes_on r x in
      reader_after on.0 (step s x) xs (on.1 ∙ ap (λ t. step t x) e)

  run_same : (s : S) (xs m : List ℕ) → restored (run step s xs) m ≡ restored s m
  run_same s [] m = refl
  run_same s (x ∷ xs) m = run_same (step s x) xs m ∙ same s x m

  -- with the settings that it had
  pub restored_after : (settings : R) (s : S) (memory xs : List ℕ) → restored (state settings) memory ≡ Ok s → restored (state settings) (saved (run step s xs)) ≡ Ok (run step s xs)
  restored_after settings s memory xs e =
      let opened = opens settings s memory e in
      let left = saved (run step s xs) in
      let after = reader_after opened.0.0 s xs opened.0.1 in
      sym (opened.2 left) ∙ sym (run_same s xs left) ∙ subst (λ t. restored t (saved t) ≡ Ok t) after.1 (back after.0)

module _ {S O : Type 0} (step : S → ℕ → S) (emit : S → ℕ → Option O) (encoded : O → List ℕ) (width : ℕ) (saved : S → List ℕ) (restored : S → List ℕ → Result S ℕ)
    (sized : (o : O) → length (encoded o) ≡ width) where
  -- the numbers that a call gave are those of what it read
  pub given : (s : S) (xs room : List ℕ) (n : ℕ) → n ≡ length (outputs step emit s xs) → take (n * width) (filled (numbers_read step emit encoded s xs) room) ≡ numbers_read step emit encoded s xs
  given s xs room n e = take_at (numbers_read step emit encoded s xs) _ (n * width) (length-numbers step emit encoded width sized s xs ∙ ap (λ k. k * width) (sym e))

  -- one call, where n and m outputs come of the two parts of its samples
  joined_call :
      (s : S) (xs ys memory room left ns ms : List ℕ) (t : Result S ℕ) (n m : ℕ) → t ≡ Ok s → n ≡ length (outputs step emit s xs) →
      m ≡ length (outputs step emit (run step s xs) ys) → length (xs ++ ys) ≤ 65535 → (n + m) * width ≤ length room → left ≡ saved (run step (run step s xs) ys) →
      ns ≡ numbers_read step emit encoded s xs → ms ≡ numbers_read step emit encoded (run step s xs) ys →
      reading step emit encoded saved t (xs ++ ys) memory room ≡ record { answer = Ok (n + m); memory = left; room = filled (ns ++ ms) room }
  joined_call s xs ys memory room left ns ms t n m e en em few fits el ens ems =
      let os = outputs-append step emit s xs ys in
      let many : length (outputs step emit s (xs ++ ys)) ≡ n + m =
      ap length os ∙ length-append (outputs step emit s xs) (outputs step emit (run step s xs) ys) ∙ omega (arith, en, em) in
      let numbers : numbers_read step emit encoded s (xs ++ ys) ≡ ns ++ ms =
      ap (flat_map encoded) os ∙ flat_map-append encoded (outputs step emit s xs) (outputs step emit (run step s xs) ys) ∙ rw (ens, ems) in
      let total : length (numbers_read step emit encoded s (xs ++ ys)) ≤ length room = rw (length-numbers step emit encoded width sized s (xs ++ ys), many) fits in
      reads step emit encoded saved (xs ++ ys) memory room t s e few (le-leb _ _ total)
      ∙ rw (many, numbers, run-append step emit s xs ys, el)

  module _ (settings : S) (after : (s : S) (memory xs : List ℕ) → restored settings memory ≡ Ok s → restored settings (saved (run step s xs)) ≡ Ok (run step s xs)) where
    abbrev called : (samples memory room : List ℕ) → After
    called = call_with step emit encoded saved restored settings

    -- the memory that a call left
    left_restores :
        (xs memory room : List ℕ) (n : ℕ) (first : (called xs memory room).answer ≡ Ok n) →
        restored settings (called xs memory room).memory ≡ Ok (run step (has_read step emit encoded saved xs memory room (restored settings memory) n first).reader xs)
    left_restores xs memory room n first =
        let r = has_read step emit encoded saved xs memory room (restored settings memory) n first in
        ap (λ (a : After). restored settings a.memory) r.all ∙ after r.reader memory xs r.restored

    left_is_taken_back : LeftIsTakenBack width called
    left_is_taken_back xs ys memory room₁ room₂ n p first second =
        not_memory step emit encoded saved ys (called xs memory room₁).memory room₂ _ _ p (left_restores xs memory room₁ n first) second

    two_read_as_one : TwoReadAsOne width called
    two_read_as_one xs ys memory room₁ room₂ room n m first second few fits =
        let r1 = has_read step emit encoded saved xs memory room₁ (restored settings memory) n first in
        let s = r1.reader in
        let memory₁ = (called xs memory room₁).memory in
        let r2 = has_read step emit encoded saved ys memory₁ room₂ (restored settings memory₁) m second in
        let again = left_restores xs memory room₁ n first in
        let is : r2.reader ≡ run step s xs = (let e = sym r2.restored ∙ again in cc) in
        joined_call s xs ys memory room _ _ _ (restored settings memory) n m r1.restored r1.many (r2.many ∙ ap (λ r. length (outputs step emit r ys)) is) few fits
        (ap (λ (a : After). a.memory) r2.all ∙ ap (λ r. saved (run step r ys)) is)
        (ap (λ (a : After). take (n * width) a.room) r1.all ∙ given s xs room₁ n r1.many)
        (ap (λ (a : After). take (m * width) a.room) r2.all ∙ given r2.reader ys room₂ m r2.many ∙ ap (λ r. numbers_read step emit encoded r ys) is)

    pub cut_is_read : CutIsRead width called
    cut_is_read = (two_read_as_one, left_is_taken_back)
