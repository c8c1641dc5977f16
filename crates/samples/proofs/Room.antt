-- Numbers are written into a room. Assumes nothing.
use Rattle.std.proofs.Common.{◌≡◌, ℕ, ◌+◌, ◌-◌, ◌*◌, ◌≤◌, List, [], ◌∷◌, ◌++◌, length, take, drop, sym, refl, ap, ◌∙◌, arith, length-append, length-drop}
use borrow.Rule.Slice.PartMut.{put_mid}
use Rattle.std.proofs.lemmas.List.{append-nil, append_assoc, take_at, drop_at, drop_all, drop-drop, take_rest}
use Rattle.samples.specs.declared.run.Run.{Run}
use Rattle.samples.specs.Roll.{numbers, filled}

pub length-numbers : (rs : List Run) → length (numbers rs) ≡ 2 * length rs
length-numbers [] = refl
length-numbers (r ∷ rs) = let on = length-numbers rs in omega arith

-- the part of the room from `at` on is lent, and `free` is what it holds after ns were written at its front
module _ (room free ns : List ℕ) (at : ℕ) (fits : at + length ns ≤ length room) (wrote : free ≡ filled ns (take (length room - at) (drop at room))) where
  abbrev after : List ℕ
  after = put_mid at (length room - at) room free

  after_is : after ≡ (take at room ++ ns) ++ drop (at + length ns) room
  after_is =
      ap (λ post. take at room ++ (free ++ post)) (drop_all (length room - at) (drop at room) (omega (arith, length-drop at room)))
      ∙ ap (λ l. take at room ++ l) (append-nil free ∙ wrote)
      ∙ ap (λ l. take at room ++ (ns ++ drop (length ns) l)) (take_rest room at)
      ∙ ap (λ l. take at room ++ (ns ++ l)) (drop-drop (length ns) at room)
      ∙ sym (append_assoc (take at room) ns (drop (at + length ns) room))

-- more is written behind what was written: the free part of the room was lent
pub lent_on :
    (start room free ns ms : List ℕ) (at : ℕ) → at ≡ length ns → at + length ms ≤ length start → room ≡ filled ns start →
    free ≡ filled ms (take (length room - at) (drop at room)) → put_mid at (length room - at) room free ≡ filled (ns ++ ms) start
lent_on start room free ns ms at long fits is wrote =
    let size : length room ≡ length start = ap length is ∙ length-append ns (drop (length ns) start) ∙ omega (arith, length-drop (length ns) start, long, fits) in
    let front : take at room ≡ ns = ap (take at) is ∙ take_at ns (drop (length ns) start) at (sym long) in
    let rest : drop at room ≡ drop at start = ap (drop at) is ∙ drop_at ns (drop (length ns) start) at (sym long) ∙ ap (λ n. drop n start) (sym long) in
    let both : at + length ms ≡ length (ns ++ ms) = omega (arith, long, length-append ns ms) in
    after_is room free ms at (omega (arith, size, fits)) wrote
    ∙ ap (λ l. (l ++ ms) ++ drop (at + length ms) room) front
    ∙ ap (λ l. (ns ++ ms) ++ l) (sym (drop-drop (length ms) at room) ∙ ap (drop (length ms)) rest ∙ drop-drop (length ms) at start ∙ ap (λ n. drop n start) both)
