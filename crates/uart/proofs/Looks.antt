-- A reader from one look of a frame to the next, whatever the levels are. Assumes nothing.
use Rattle.std.proofs.Common.{◌≡◌, ℕ, zero, suc, ◌+◌, ◌-◌, ◌/◌, ◌<◌, ◌≤◌, Bool, true, false, List, [], ◌∷◌, ◌++◌, length, get_or, drop, Some, None, Option, sym, refl, ap, ◌∙◌, ⊎_elim, append_assoc, suc-mul, arith, length-drop}
use Rattle.std.specs.Option.{option_map}
use Rattle.std.proofs.lemmas.List.{get_or-drop, drop-drop}
use Rattle.std.proofs.lemmas.Bool.{ne_eqb, le-leb, true≢false, cases_lt}
use Rattle.decoder.specs.Machine.{run, before, outputs_at}
use Rattle.uart.specs.declared.words.State.{State}
use Rattle.uart.specs.declared.words.Word.{Word}
use Rattle.uart.specs.Decoder.{idle, under_way, looked, word_at, on_level, read_at, fresh}
use Rattle.uart.specs.Rule.{look_place, look, bits_at, word_of}

-- from place p, a reader and levels to others, with the words that are read on the way
pub record Comes (p : ℕ) (s : State) (xs : List Bool) (ws : List (ℕ × Word)) (q : ℕ) (t : State) (ys : List Bool) : Type 0 where
  pub states : run on_level s xs ≡ run on_level t ys
  pub words : outputs_at on_level read_at p s xs ≡ ws ++ outputs_at on_level read_at q t ys

pub and_then :
    (p : ℕ) (s : State) (xs : List Bool) (vs : List (ℕ × Word)) (q : ℕ) (t : State) (ys : List Bool) (ws : List (ℕ × Word)) (o : ℕ) (u : State) (zs : List Bool) →
    Comes p s xs vs q t ys → Comes q t ys ws o u zs → Comes p s xs (vs ++ ws) o u zs
and_then p s xs vs q t ys ws o u zs f g =
    record {
      states = f.states ∙ g.states;
      words = f.words ∙ ap (λ ps. vs ++ ps) g.words ∙ sym (append_assoc vs ws (outputs_at on_level read_at o u zs));
    }

-- ONE LOOK

abbrev placed : ℕ → Option Word → List (ℕ × Word)
placed q o = before (option_map (λ v. (q, v)) o) []

before-is : (q : ℕ) (o : Option Word) (ws : List (ℕ × Word)) → before (option_map (λ v. (q, v)) o) ws ≡ placed q o ++ ws
before-is q None ws = refl
before-is q (Some v) ws = refl

module _ (r : State) where
  look_run :
      (x : Bool) (w n b : ℕ) (ys : List Bool) → w < length ys →
      run on_level (under_way r x w n b) ys ≡ run on_level (looked (under_way r true 0 n b) (get_or ys w true)) (drop (suc w) ys)
  look_run x zero n b [] h = absurd (omega arith)
  look_run x (suc w) n b [] h = absurd (omega arith)
  look_run x zero n b (y ∷ ys) h = refl
  look_run x (suc w) n b (y ∷ ys) h =
      let more : suc w - 1 ≡ w = omega arith in
      let within : w < length ys = omega arith in
      rw (ne_eqb (suc w) 0 (λ e. omega (arith, e)), more) (look_run y w n b ys within)

  -- the look is at place q
  look_words :
      (p q : ℕ) (x : Bool) (w n b : ℕ) (ys : List Bool) → w < length ys → p + w ≡ q →
      outputs_at on_level read_at p (under_way r x w n b) ys
      ≡ before (option_map (λ v. (q, v)) (word_at (under_way r true 0 n b) (get_or ys w true)))
      (outputs_at on_level read_at (q + 1) (looked (under_way r true 0 n b) (get_or ys w true)) (drop (suc w) ys))
  look_words p q x zero n b [] h e = absurd (omega arith)
  look_words p q x (suc w) n b [] h e = absurd (omega arith)
  look_words p q x zero n b (y ∷ ys) h e = let f : p ≡ q = omega arith in rw f
  look_words p q x (suc w) n b (y ∷ ys) h e =
      let more : suc w - 1 ≡ w = omega arith in
      let within : w < length ys = omega arith in
      let on : p + 1 + w ≡ q = omega arith in
      rw (ne_eqb (suc w) 0 (λ e. omega (arith, e)), more) (look_words (p + 1) q y w n b ys within on)

  -- no look within the levels that are left
  no_look : (p : ℕ) (x : Bool) (w n b : ℕ) (ys : List Bool) → length ys ≤ w → outputs_at on_level read_at p (under_way r x w n b) ys ≡ []
  no_look p x w n b [] h = refl
  no_look p x zero n b (y ∷ ys) h = absurd (omega arith)
  no_look p x (suc w) n b (y ∷ ys) h =
      let more : suc w - 1 ≡ w = omega arith in
      let short : length ys ≤ w = omega arith in
      rw (ne_eqb (suc w) 0 (λ e. omega (arith, e)), more) (no_look (p + 1) y w n b ys short)

  -- the next look, at place q, leaves the reader t and reads o
  one_look :
      (p q : ℕ) (x : Bool) (w n b : ℕ) (ys : List Bool) (t : State) (o : Option Word) → w < length ys → p + w ≡ q →
      looked (under_way r true 0 n b) (get_or ys w true) ≡ t → word_at (under_way r true 0 n b) (get_or ys w true) ≡ o →
      Comes p (under_way r x w n b) ys (placed q o) (q + 1) t (drop (suc w) ys)
  one_look p q x w n b ys t o h e f g =
      record {
        states = look_run x w n b ys h ∙ ap (λ s. run on_level s (drop (suc w) ys)) f;
        words = look_words p q x w n b ys h e ∙ rw (f, g) (before-is q o (outputs_at on_level read_at (q + 1) t (drop (suc w) ys)));
      }

-- A FRAME, from its first low level on

-- the fall
fall :
    (d k p : ℕ) (xs : List Bool) → get_or xs 0 true ≡ false → Comes p (fresh d k) xs [] (p + 1) (under_way (fresh d k) false (d / 2 - 1) 0 0) (drop 1 xs)
fall d k p [] e = absurd (true≢false e)
fall d k p (true ∷ ys) e = absurd (true≢false e)
fall d k p (false ∷ ys) e = record { states = refl; words = refl }

module _ (d k p : ℕ) (two : 2 ≤ d) (xs : List Bool) where
  -- after the level at q
  abbrev After : (ws : List (ℕ × Word)) (q : ℕ) (t : State) → Type 0
  After ws q t = Comes p (fresh d k) xs ws (p + suc q) t (drop (suc q) xs)

  -- the look after that at q, with w levels between
  next_look :
      (q w m : ℕ) (x : Bool) (n b : ℕ) (t : State) (o : Option Word) → suc q + w ≡ m → m < length xs →
      looked (under_way (fresh d k) true 0 n b) (get_or xs m true) ≡ t → word_at (under_way (fresh d k) true 0 n b) (get_or xs m true) ≡ o →
      After [] q (under_way (fresh d k) x w n b) → After (placed (p + m) o) m t
  next_look q w m x n b t o far h f g here =
      let e : p + suc q + w ≡ p + m = omega arith in
      let within : w < length (drop (suc q) xs) = rw (length-drop (suc q) xs) (omega arith) in
      let same : get_or (drop (suc q) xs) w true ≡ get_or xs m true = get_or-drop (suc q) xs w true ∙ ap (λ i. get_or xs i true) far in
      let past : suc q + suc w ≡ suc m = omega arith in
      let left : drop (suc w) (drop (suc q) xs) ≡ drop (suc m) xs = drop-drop (suc w) (suc q) xs ∙ ap (λ i. drop i xs) past in
      let on : p + m + 1 ≡ p + suc m = omega arith in
      let there = one_look (fresh d k) (p + suc q) (p + m) x w n b (drop (suc q) xs) t o within e (rw same f) (rw same g) in
      and_then p (fresh d k) xs [] (p + suc q) (under_way (fresh d k) x w n b) (drop (suc q) xs) (placed (p + m) o) (p + suc m) t (drop (suc m) xs) here
      (rw (left, on) at there)

  -- the look at the start bit finds the level x
  pub start_looked :
      (x : Bool) → get_or xs 0 true ≡ false → look d xs 0 ≡ x → look_place d 0 < length xs →
      After [] (look_place d 0) (looked (under_way (fresh d k) true 0 0 0) x)
  start_looked x low e h =
      let far : suc 0 + (d / 2 - 1) ≡ look_place d 0 = omega arith in
      next_look 0 (d / 2 - 1) (look_place d 0) false 0 0 (looked (under_way (fresh d k) true 0 0 0) x) None far h (rw e) refl (fall d k p xs low)

  -- no look at all
  pub start_cut : get_or xs 0 true ≡ false → length xs ≤ look_place d 0 → outputs_at on_level read_at p (fresh d k) xs ≡ []
  start_cut low l =
      let short : length (drop 1 xs) ≤ d / 2 - 1 = rw (length-drop 1 xs) (omega arith) in
      (fall d k p xs low).words ∙ no_look (fresh d k) (p + 1) false (d / 2 - 1) 0 0 (drop 1 xs) short

  module _ (low : get_or xs 0 true ≡ false) (started : look d xs 0 ≡ false) where
    -- the look at data bit n, or before them all at the start bit
    data_looked :
        (n : ℕ) → n ≤ 8 → look_place d n < length xs → After [] (look_place d n) (under_way (fresh d k) (look d xs n) (d - 1) (suc n) (bits_at d xs n))
    data_looked zero h l = rw started (start_looked false low started l)
    data_looked (suc n) h l =
        let more = suc-mul n d in
        let far : suc (look_place d n) + (d - 1) ≡ look_place d (suc n) = omega arith in
        let n1 : suc n - 1 ≡ n = omega arith in
        let n2 : suc n + 1 ≡ suc (suc n) = omega arith in
        next_look (look_place d n) (d - 1) (look_place d (suc n)) (look d xs n) (suc n) (bits_at d xs n)
        (under_way (fresh d k) (look d xs (suc n)) (d - 1) (suc (suc n)) (bits_at d xs (suc n))) None far l (rw (ne_eqb (suc n) 0 (λ e. omega (arith, e)), le-leb (suc n) 8 h, n1, n2))
        (rw (le-leb (suc n) 8 h)) (data_looked n (omega arith) (omega arith))

    -- the look at the stop bit
    pub frame_read : look_place d 9 < length xs → After ((p + look_place d 9, word_of d xs) ∷ []) (look_place d 9) (idle (fresh d k) (look d xs 9))
    frame_read l =
        let more = suc-mul 8 d in
        let far : suc (look_place d 8) + (d - 1) ≡ look_place d 9 = omega arith in
        next_look (look_place d 8) (d - 1) (look_place d 9) (look d xs 8) 9 (bits_at d xs 8) (idle (fresh d k) (look d xs 9)) (Some (word_of d xs)) far l refl refl
        (data_looked 8 (omega arith) (omega arith))

    -- a frame that ends between two looks
    cut_after : (n : ℕ) → n ≤ 8 → look_place d n < length xs → length xs ≤ look_place d (suc n) → outputs_at on_level read_at p (fresh d k) xs ≡ []
    cut_after n h l m =
        let q = look_place d n in
        let short : length (drop (suc q) xs) ≤ d - 1 = rw (length-drop (suc q) xs) (omega (arith, suc-mul n d)) in
        (data_looked n h l).words ∙ no_look (fresh d k) (p + suc q) (look d xs n) (d - 1) (suc n) (bits_at d xs n) (drop (suc q) xs) short

    -- a frame that ends between look n and the last one
    cut_from : (m n : ℕ) → n + m ≡ 8 → look_place d n < length xs → length xs ≤ look_place d 9 → outputs_at on_level read_at p (fresh d k) xs ≡ []
    cut_from zero n e l h = let z : n ≡ 8 = omega arith in cut_after n (omega arith) l (rw z h)
    cut_from (suc m) n e l h =
        ⊎_elim (λ more. cut_from m (suc n) (omega arith) more h) (λ none. cut_after n (omega arith) l none) (cases_lt (look_place d (suc n)) (length xs))

    pub frame_cut : look_place d 0 < length xs → length xs ≤ look_place d 9 → outputs_at on_level read_at p (fresh d k) xs ≡ []
    frame_cut l h = cut_from 8 0 refl l h
