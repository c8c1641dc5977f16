-- Every wave is read by the rule. Assumes nothing.
use Rattle.std.proofs.Common.{◌≡◌, ℕ, zero, suc, ◌+◌, ◌≤◌, Bool, true, false, leb, List, [], ◌∷◌, map, length, drop, refl, ap, ◌∙◌, arith, length-drop}
use Rattle.std.proofs.lemmas.List.{length-map}
use Rattle.std.proofs.lemmas.Bool.{cond_both, leb-true, leb-false}
use Rattle.samples.specs.Line.{level}
use Rattle.decoder.specs.Machine.{outputs_at}
use Rattle.uart.specs.declared.words.Word.{Word}
use Rattle.uart.specs.Decoder.{idle, on_level, read_at, fresh}
use Rattle.uart.specs.Rule.{look_place, look, word_of, by_looks, LooksAreRead}
use Rattle.uart.proofs.Levels.{line_words}
use Rattle.uart.proofs.Looks.{start_looked, start_cut, frame_read, frame_cut}

module _ (d k : ℕ) (two : 2 ≤ d) where
  by_rule : (fuel p : ℕ) (b : Bool) (xs : List Bool) → length xs ≤ fuel → outputs_at on_level read_at p (idle (fresh d k) b) xs ≡ by_looks fuel d p b xs
  by_rule zero p b [] h = refl
  by_rule zero p b (x ∷ xs) h = absurd (omega arith)
  by_rule (suc fuel) p b [] h = refl
  by_rule (suc fuel) p false (false ∷ xs) h = by_rule fuel (p + 1) false xs (omega arith)
  by_rule (suc fuel) p false (true ∷ xs) h = by_rule fuel (p + 1) true xs (omega arith)
  by_rule (suc fuel) p true (true ∷ xs) h = by_rule fuel (p + 1) true xs (omega arith)
  by_rule (suc fuel) p true (false ∷ xs) h =
      let ys = false ∷ xs in
      let Read : List (ℕ × Word) → Type 0 = λ ws. outputs_at on_level read_at p (fresh d k) ys ≡ ws in
      let on : (q : ℕ) (b : Bool) → outputs_at on_level read_at (p + suc q) (idle (fresh d k) b) (drop (suc q) ys) ≡ by_looks fuel d (p + suc q) b (drop (suc q) ys) =
      λ q b. by_rule fuel (p + suc q) b (drop (suc q) ys) (omega (arith, length-drop (suc q) ys)) in
      cond_both (leb (length ys) (look_place d 0)) _ _ Read (λ e. start_cut d k p two ys refl (leb-true (length ys) (look_place d 0) e))
      (λ e.
      let long = leb-false (length ys) (look_place d 0) e in
      cond_both (look d ys 0) _ _ Read (λ none. (start_looked d k p two ys true refl none long).words ∙ on (look_place d 0) true)
      (λ started.
      cond_both (leb (length ys) (look_place d 9)) _ _ Read (λ f. frame_cut d k p two ys refl started long (leb-true (length ys) (look_place d 9) f))
      (λ f.
      (frame_read d k p two ys refl started (leb-false (length ys) (look_place d 9) f)).words
      ∙ ap (λ ws. (p + look_place d 9, word_of d ys) ∷ ws) (on (look_place d 9) (look d ys 9)))))

pub looks_are_read : LooksAreRead
looks_are_read d k samples two =
    let xs = map (level k) samples in
    line_words 0 (fresh d k) samples ∙ by_rule d k two (length samples) 0 true xs (omega (arith, length-map samples (level k)))
