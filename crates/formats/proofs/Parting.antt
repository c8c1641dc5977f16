-- What stands before and after the first mark of a text, and the lines of a text by its first newline. Assumes nothing.
use Rattle.std.proofs.Common.{◌≡◌, ℕ, zero, suc, ◌+◌, ◌<◌, false, eqb, ◌⊎◌, List, [], ◌∷◌, ◌++◌, length, sym, drop, append_assoc, ap, ◌∙◌, inl, inr, ⊎_elim, suc-le-suc, zero-le, le_of_suc-le-suc, arith}
use Rattle.std.specs.Str.Iter.{LacksByte}
use Rattle.std.proofs.lemmas.List.{length-append, get_or_append_left, take_at, drop_at, drop_all}
use Rattle.std.proofs.lemmas.List.Sums.{position_or_len_is}
use Rattle.std.proofs.Math.Seq.{get_or-append_seam}
use Rattle.std.specs.List.{position_or_len, before_first, after_first, onto_first}
use Rattle.std.proofs.lemmas.Bool.{ne_eqb, eq-eqb, cond-true, cond-false, cases_eq}
use Rattle.formats.specs.Text.{lines_of}
use Rattle.formats.specs.Number.{Ends}

lacks_tail : (mark b : ℕ) (xs : List ℕ) → LacksByte mark (b ∷ xs) → LacksByte mark xs
lacks_tail mark b xs h k lt e = h (suc k) (suc-le-suc lt) e

not_first : (mark b : ℕ) (xs : List ℕ) → LacksByte mark (b ∷ xs) → eqb b mark ≡ false
not_first mark b xs h = ne_eqb b mark (λ e. h 0 (suc-le-suc zero-le) e)

pub lacks_cons : (mark b : ℕ) (xs : List ℕ) → (b ≡ mark → ⊥) → LacksByte mark xs → LacksByte mark (b ∷ xs)
lacks_cons mark b xs n h zero lt e = n e
lacks_cons mark b xs n h (suc k) lt e = h k (le_of_suc-le-suc lt) e

pub lacks_append : (mark : ℕ) (xs ys : List ℕ) → LacksByte mark xs → LacksByte mark ys → LacksByte mark (xs ++ ys)
lacks_append mark [] ys h k = k
lacks_append mark (b ∷ xs) ys h k =
    lacks_cons mark b (xs ++ ys) (h 0 (omega arith)) (lacks_append mark xs ys (λ i lt e. h (suc i) (omega arith) e) k)

-- the whole of a text stands before its first mark, where there is none
position-none : (mark : ℕ) (xs : List ℕ) → LacksByte mark xs → position_or_len (λ b. eqb b mark) xs ≡ length xs
position-none mark xs h = position_or_len_is _ xs (length xs) 0 (omega arith) (λ k lt. ne_eqb _ _ (h k lt)) (λ lt. absurd (omega arith))

position-at : (mark : ℕ) (xs ys : List ℕ) → LacksByte mark xs → position_or_len (λ b. eqb b mark) (xs ++ (mark ∷ ys)) ≡ length xs
position-at mark xs ys h =
    position_or_len_is _ (xs ++ (mark ∷ ys)) (length xs) 0 (simp length-append (omega arith))
    (λ k lt. ne_eqb _ _ (λ e. h k lt (sym (get_or_append_left xs (mark ∷ ys) 0 k lt) ∙ e)))
    (λ lt. eq-eqb _ _ (get_or-append_seam xs mark ys 0))

pub after_none : (mark : ℕ) (xs : List ℕ) → LacksByte mark xs → after_first (λ b. eqb b mark) xs ≡ []
after_none mark xs h = drop_all _ xs (omega (arith, position-none mark xs h))

pub before_at : (mark : ℕ) (xs ys : List ℕ) → LacksByte mark xs → before_first (λ b. eqb b mark) (xs ++ (mark ∷ ys)) ≡ xs
before_at mark xs ys h = take_at xs (mark ∷ ys) _ (sym (position-at mark xs ys h))

pub after_at : (mark : ℕ) (xs ys : List ℕ) → LacksByte mark xs → after_first (λ b. eqb b mark) (xs ++ (mark ∷ ys)) ≡ ys
after_at mark xs ys h =
    ap (drop (position_or_len (λ b. eqb b mark) (xs ++ (mark ∷ ys)) + 1)) (sym (append_assoc xs (mark ∷ []) ys))
    ∙ drop_at (xs ++ (mark ∷ [])) ys _ (omega (arith, length-append xs (mark ∷ []), position-at mark xs ys h))

-- the first mark of a text
pub record Marked (mark : ℕ) (bs : List ℕ) : Type 0 where
  pub before : List ℕ
  pub after : List ℕ
  pub whole : bs ≡ before ++ (mark ∷ after)
  pub first : LacksByte mark before

marked_more : (mark b : ℕ) (bs : List ℕ) → (b ≡ mark → ⊥) → Marked mark bs → Marked mark (b ∷ bs)
marked_more mark b bs n m =
    record { before = b ∷ m.before; after = m.after; whole = ap (λ l. b ∷ l) m.whole; first = lacks_cons mark b m.before n m.first }

pub find_mark : (mark : ℕ) (bs : List ℕ) → LacksByte mark bs ⊎ Marked mark bs
find_mark mark [] = inl (λ k lt e. omega arith)
find_mark mark (b ∷ bs) =
    ⊎_elim (λ e. inr (record { before = []; after = bs; whole = ap (λ m. m ∷ bs) e; first = λ k lt f. omega arith }))
    (λ n. ⊎_elim (λ h. inl (lacks_cons mark b bs n h)) (λ m. inr (marked_more mark b bs n m)) (find_mark mark bs)) (cases_eq b mark)

pub lines_cut : (line end after : List ℕ) → 0 < length (line ++ end) → LacksByte 10 line → Ends end after → lines_of (line ++ end) ≡ line ∷ lines_of after
lines_cut [] [] after some h e = absurd (omega arith)
lines_cut [] (b ∷ end) after some h e = cond-true _ _ _ (eq-eqb b 10 e.0) ∙ ap (λ l. [] ∷ lines_of l) e.1
lines_cut (b ∷ []) [] after some h e = cond-false _ _ _ (not_first 10 b [] h) ∙ ap (λ l. (b ∷ []) ∷ lines_of l) (sym e)
lines_cut (b ∷ []) (d ∷ end) after some h e =
    cond-false _ _ _ (not_first 10 b [] h) ∙ ap (onto_first b) (lines_cut [] (d ∷ end) after (omega arith) (lacks_tail 10 b [] h) e)
lines_cut (b ∷ d ∷ line) end after some h e =
    cond-false _ _ _ (not_first 10 b (d ∷ line) h) ∙ ap (onto_first b) (lines_cut (d ∷ line) end after (omega arith) (lacks_tail 10 b (d ∷ line) h) e)

pub ends_less : (line end after : List ℕ) → 0 < length (line ++ end) → Ends end after → length after < length (line ++ end)
ends_less line [] after some e = omega (arith, ap length e)
ends_less line (b ∷ end) after some e = omega (arith, ap length e.1, length-append line (b ∷ end))
