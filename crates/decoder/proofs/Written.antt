-- A loop over samples that writes numbers into a room. Assumes nothing.
use Rattle.std.proofs.Common.{Bool, false, leb, ◌≡◌, ℕ, ◌+◌, ◌-◌, ◌*◌, ◌<◌, ◌≤◌, List, [], ◌∷◌, ◌++◌, length, get_or, take, drop, Some, None, Option, sym, ap, ◌∙◌, append_assoc, suc-mul, arith, length-append}
use borrow.Rule.Slice.PartMut.{put_mid}
use Rattle.std.specs.List.{flat_map}
use Rattle.std.proofs.lemmas.Bool.{leb-false}
use Rattle.std.proofs.lemmas.List.{append-nil, at_drop_more, at_drop_all}
use Rattle.samples.specs.Roll.{filled}
use Rattle.samples.proofs.Room.{lent_on}
use Rattle.decoder.specs.Machine.{run, before, outputs}
use Rattle.decoder.specs.Reading.{numbers_read}

-- so far `at` numbers are written into a room that held `start`, and with those of `left` it is all
pub record Filling (start all left room : List ℕ) (at : ℕ) : Type 0 where
  pub written : List ℕ
  pub parts : all ≡ written ++ left
  pub long : at ≡ length written
  pub filling : room ≡ filled written start

pub filling_more :
    (start all left room free ns more : List ℕ) (at : ℕ) → length all ≤ length start → left ≡ ns ++ more → Filling start all left room at →
    free ≡ filled ns (take (length room - at) (drop at room)) → Filling start all more (put_mid at (length room - at) room free) (at + length ns)
filling_more start all left room free ns more at fits e f wrote =
    let parts : all ≡ (f.written ++ ns) ++ more = f.parts ∙ ap (λ l. f.written ++ l) e ∙ sym (append_assoc f.written ns more) in
    let size : length all ≡ length (f.written ++ ns) + length more = ap length parts ∙ length-append (f.written ++ ns) more in
    let both = length-append f.written ns in
    record {
      written = f.written ++ ns;
      parts = parts;
      long = omega (arith, f.long, both);
      filling = lent_on start room free f.written ns at f.long (omega (arith, f.long, both, size, fits)) f.filling wrote;
    }

pub filling_all : (start all left room : List ℕ) (at : ℕ) → left ≡ [] → Filling start all left room at → room ≡ filled all start
filling_all start all left room at none f = f.filling ∙ ap (λ ns. filled ns start) (sym (f.parts ∙ ap (λ l. f.written ++ l) none ∙ append-nil f.written))

module _ {S O : Type 0} (step : S → ℕ → S) (emit : S → ℕ → Option O) (encoded : O → List ℕ) (width : ℕ) (start : S) (xs lent : List ℕ) where
  abbrev all : List ℕ
  all = numbers_read step emit encoded start xs

  -- after i samples the reader is at `s`, so many outputs came, and their numbers are in the room, if all fit
  pub record Walked (s : S) (i many : ℕ) (room : List ℕ) : Type 0 where
    pub few : many ≤ i
    pub state : run step s (drop i xs) ≡ run step start xs
    pub count : many + length (outputs step emit s (drop i xs)) ≡ length (outputs step emit start xs)
    pub written : length all ≤ length lent → Filling lent all (numbers_read step emit encoded s (drop i xs)) room (many * width)

  -- all samples
  pub walked_all : (s : S) (i many : ℕ) (room : List ℕ) → length xs ≤ i → Walked s i many room →
      (s ≡ run step start xs) × (many ≡ length (outputs step emit start xs)) × (length all ≤ length lent → room ≡ filled all lent)
  walked_all s i many room past w =
      let none = at_drop_all (outputs step emit s) xs i past in (
        sym (at_drop_all (run step s) xs i past) ∙ w.state,
        omega (arith, ap length none, w.count),
        λ fits. filling_all lent all _ room (many * width) (ap (flat_map encoded) none) (w.written fits),
      )

  -- one more
  module _ (s t : S) (i many : ℕ) (room : List ℕ) (o : Option O) (within : i < length xs) (next : t ≡ step s (get_or xs i 0)) (output : o ≡ emit s (get_or xs i 0)) (w : Walked s i many room) where
    ran : run step t (drop (i + 1) xs) ≡ run step start xs
    ran = ap (λ u. run step u (drop (i + 1) xs)) next ∙ sym (at_drop_more (run step s) xs i 0 within) ∙ w.state

    more : outputs step emit s (drop i xs) ≡ before o (outputs step emit t (drop (i + 1) xs))
    more = at_drop_more (outputs step emit s) xs i 0 within ∙ rw (← next, ← output)

    -- at which there was no output
    pub walked_quiet : o ≡ None → Walked t (i + 1) many room
    walked_quiet none =
        let same = more ∙ ap (λ p. before p (outputs step emit t (drop (i + 1) xs))) none in
        record { few = omega (arith, w.few); state = ran; count = omega (arith, ap length same, w.count); written = λ fits. rw (← same) (w.written fits) }

    module _ (sized : (o : O) → length (encoded o) ≡ width) (word : O) (some : o ≡ Some word) where
      one : outputs step emit s (drop i xs) ≡ word ∷ outputs step emit t (drop (i + 1) xs)
      one = more ∙ ap (λ p. before p (outputs step emit t (drop (i + 1) xs))) some

      with_room : (after : List ℕ) → (length all ≤ length lent → Filling lent all (numbers_read step emit encoded t (drop (i + 1) xs)) after (many * width + length (encoded word))) → Walked t (i + 1) (many + 1) after
      with_room after filling =
          let at : many * width + length (encoded word) ≡ (many + 1) * width = omega (arith, sized word, suc-mul many width) in
          record { few = omega (arith, w.few); state = ran; count = omega (arith, ap length one, w.count); written = λ fits. rw at at (filling fits) }

      -- at which an output was written
      pub walked_written : (free : List ℕ) (at : ℕ) → at ≡ many * width → free ≡ filled (encoded word) (take (length room - at) (drop at room)) →
          Walked t (i + 1) (many + 1) (put_mid at (length room - at) room free)
      walked_written free at e wrote =
          with_room _ (λ fits. rw e (filling_more lent all _ room free (encoded word) _ (many * width) fits (ap (flat_map encoded) one) (w.written fits) (rw e at wrote)))

      -- at which an output did not fit
      pub walked_past : length room ≡ length lent → (wide : ℕ) → wide ≡ width → (fits : Bool) → fits ≡ leb ((many + 1) * wide) (length room) → fits ≡ false → Walked t (i + 1) (many + 1) room
      walked_past same wide e f is none =
          with_room room (λ fits.
          let short : length room < (many + 1) * width = rw e at (leb-false _ _ (sym is ∙ none)) in
          absurd (omega (arith, (w.written fits).long, ap length (w.written fits).parts, length-append (w.written fits).written (numbers_read step emit encoded s (drop i xs)), ap (λ os. length (flat_map encoded os)) one, length-append (encoded word) (numbers_read step emit encoded t (drop (i + 1) xs)), sized word, suc-mul many width)))
