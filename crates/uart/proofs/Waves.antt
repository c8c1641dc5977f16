-- Of every fair wave just the bytes sent are read. Assumes nothing.
use Rattle.std.proofs.Common.{◌≡◌, ℕ, zero, suc, ◌+◌, ◌-◌, ◌%◌, ◌^◌, ◌<◌, ◌≤◌, Bool, true, false, List, [], ◌∷◌, ◌++◌, map, length, get_or, drop, replicate, refl, ap, ◌∙◌, ⊎_elim, arith, length-append, length-drop}
use Rattle.std.proofs.lemmas.List.{append-nil, get_or-drop, drop-append-le, get_or_append_left, get_or-append_right, get_or-replicate, length-replicate}
use Rattle.std.proofs.lemmas.Bool.{false≢true, ne_eqb, le-leb, cases_lt}
use Rattle.decoder.specs.Machine.{run, outputs_at}
use Rattle.decoder.proofs.Cut.{unplaced}
use Rattle.uart.specs.declared.words.Word.TheVariants.{Byte}
use Rattle.uart.specs.Decoder.{on_level, read_at, step, emit, fresh}
use Rattle.uart.specs.Rule.{look_place, look, bits_at, word_of}
use Rattle.uart.specs.Wave.{Sent, level_of, levels_from, sent_wave, wave, wave_after, begin, Fair, AllFair, sent_at, bytes_sent, WavesAreRead}
use Rattle.uart.proofs.Digits.{bits_more}
use Rattle.uart.proofs.Levels.{begin-first, begin-next, length-levels, in_level, line_run, line_words}
use Rattle.uart.proofs.Looks.{Comes, and_then, frame_read}

-- THE BITS OF A BYTE

-- where each look finds its level, the byte is what was sent
module _ (d v : ℕ) (xs : List Bool) (seen : (n : ℕ) → n < 10 → look d xs n ≡ level_of v n) where
  bits_sent : (n : ℕ) → n ≤ 8 → bits_at d xs n ≡ v % 2 ^ n
  bits_sent zero h = omega arith
  bits_sent (suc n) h =
      let n1 : suc n - 1 ≡ n = omega arith in
      rw (seen (suc n) (omega arith), bits_sent n (omega arith), ne_eqb (suc n) 0 (λ e. omega (arith, e)), le-leb (suc n) 8 h, n1) (bits_more v n)

  word_sent : v < 256 → word_of d xs ≡ Byte v
  word_sent h = let all : v % 2 ^ 8 ≡ v = omega arith in rw (seen 9 (omega arith), bits_sent 8 (omega arith), all)

-- ONE BYTE

-- a line that stays high
stays : (d k p : ℕ) (ys zs : List Bool) → ((i : ℕ) → i < length ys → get_or ys i true ≡ true) → Comes p (fresh d k) (ys ++ zs) [] (p + length ys) (fresh d k) zs
stays d k p [] zs h = let e : p + 0 ≡ p = omega arith in record { states = refl; words = rw e }
stays d k p (false ∷ ys) zs h = absurd (false≢true (h 0 (omega arith)))
stays d k p (true ∷ ys) zs h =
    let on = stays d k (p + 1) ys zs (λ i l. h (suc i) (omega arith)) in
    let e : p + 1 + length ys ≡ p + suc (length ys) = omega arith in
    record { states = on.states; words = rw e at on.words }

module _ (d k p : ℕ) (two : 2 ≤ d) (b : Sent) (fair : Fair d b) (zs : List Bool) where
  abbrev levels : List Bool
  levels = levels_from b.value 0 b.lengths

  -- a sample within level n
  within :
      (n q : ℕ) → n < 10 → begin b.lengths n ≤ q → q < begin b.lengths n + get_or b.lengths n 0 →
      (q < length levels) × (get_or levels q true ≡ level_of b.value n)
  within n q h l m =
      let at = in_level b.value 0 b.lengths n q (omega (arith, fair.ten)) l m in
      let z : 0 + n ≡ n = omega arith in
      (at.0, at.1 ∙ ap (level_of b.value) z)

  end : length levels ≡ begin b.lengths 9 + get_or b.lengths 9 0
  end = length-levels b.value 0 b.lengths ∙ ap (begin b.lengths) fair.ten ∙ begin-next b.lengths 9 (omega (arith, fair.ten))

  looks : (n : ℕ) → n < 10 → (look_place d n < length levels) × (look d levels n ≡ level_of b.value n)
  looks n h = within n (look_place d n) h (fair.after n h) (fair.before n h)

  -- the line is high from the look at the stop bit on
  high : (i : ℕ) → look_place d 9 ≤ i → i < length (sent_wave b) → get_or (sent_wave b) i true ≡ true
  high i l h =
      let rest = replicate b.idle true in
      let long = length-append levels rest in
      let rests = length-replicate b.idle true in
      ⊎_elim
      (λ inside. get_or_append_left levels rest true i inside ∙ (within 9 i (omega arith) (omega (arith, fair.after 9 (omega arith))) (omega (arith, end))).1)
      (λ past. get_or-append_right levels rest (length levels) i true refl past ∙ get_or-replicate b.idle (i - length levels) true true (omega arith))
      (cases_lt i (length levels))

  one_sent : Comes p (fresh d k) (sent_wave b ++ zs) ((p + look_place d 9, Byte b.value) ∷ []) (p + length (sent_wave b)) (fresh d k) zs
  one_sent =
      let sent = sent_wave b in
      let xs = sent ++ zs in
      let q = look_place d 9 in
      let rest = replicate b.idle true in
      let long = length-append levels rest in
      let longer = length-append sent zs in
      let front : (i : ℕ) → i < length levels → get_or xs i true ≡ get_or levels i true =
      λ i h. get_or_append_left sent zs true i (omega arith) ∙ get_or_append_left levels rest true i h in
      let seen : (n : ℕ) → n < 10 → look d xs n ≡ level_of b.value n = λ n h. front (look_place d n) (looks n h).0 ∙ (looks n h).1 in
      let first = within 0 0 (omega arith) (omega (arith, begin-first b.lengths)) (omega (arith, fair.before 0 (omega arith))) in
      let last = looks 9 (omega arith) in
      let low : get_or xs 0 true ≡ false = front 0 first.0 ∙ first.1 in
      let stop : look d xs 9 ≡ true = seen 9 (omega arith) in
      let inside : suc q ≤ length sent = omega (arith, last.0) in
      let read = frame_read d k p two xs low (seen 0 (omega arith)) (omega (arith, last.0)) in
      let cut : drop (suc q) xs ≡ drop (suc q) sent ++ zs = drop-append-le (suc q) sent zs inside in
      let left = length-drop (suc q) sent in
      let after = stays d k (p + suc q) (drop (suc q) sent) zs (λ i h. get_or-drop (suc q) sent i true ∙ high (suc q + i) (omega arith) (omega arith)) in
      let on : p + suc q + length (drop (suc q) sent) ≡ p + length sent = omega arith in
      and_then p (fresh d k) xs ((p + q, Byte b.value) ∷ []) (p + suc q) (fresh d k) (drop (suc q) sent ++ zs) [] (p + length sent) (fresh d k) zs
      (rw (word_sent d b.value xs seen fair.byte, stop, cut) at read) (rw on at after)

-- ALL BYTES

all_sent : (d k p : ℕ) → 2 ≤ d → (bs : List Sent) → AllFair d bs → Comes p (fresh d k) (wave bs) (sent_at d p bs) (p + length (wave bs)) (fresh d k) []
all_sent d k p two [] f = record { states = refl; words = refl }
all_sent d k p two (b ∷ bs) f =
    let n = length (sent_wave b) in
    let e : p + n + length (wave bs) ≡ p + length (wave (b ∷ bs)) = omega (arith, length-append (sent_wave b) (wave bs)) in
    let on = rw e at (all_sent d k (p + n) two bs f.1) in
    and_then p (fresh d k) (wave (b ∷ bs)) ((p + look_place d 9, Byte b.value) ∷ []) (p + n) (fresh d k) (wave bs) (sent_at d (p + n) bs) (p + length (wave (b ∷ bs))) (fresh d k) []
    (one_sent d k p two b f.0 (wave bs)) on

sent_unplaced : (d p : ℕ) (bs : List Sent) → map (λ q. q.1) (sent_at d p bs) ≡ bytes_sent bs
sent_unplaced d p [] = refl
sent_unplaced d p (b ∷ bs) = ap (λ ws. Byte b.value ∷ ws) (sent_unplaced d (p + length (sent_wave b)) bs)

-- the line is high at first
all_sent_after : (d k lead : ℕ) → 2 ≤ d → (bs : List Sent) → AllFair d bs → Comes 0 (fresh d k) (wave_after lead bs) (sent_at d lead bs) (lead + length (wave bs)) (fresh d k) []
all_sent_after d k lead two bs fair =
    let high = replicate lead true in
    let long = length-replicate lead true in
    let idle = stays d k 0 high (wave bs) (λ i h. get_or-replicate lead i true true (omega arith)) in
    let e : 0 + length high ≡ lead = omega arith in
    and_then 0 (fresh d k) (wave_after lead bs) [] lead (fresh d k) (wave bs) (sent_at d lead bs) (lead + length (wave bs)) (fresh d k) [] (rw e at idle) (all_sent d k lead two bs fair)

pub waves_are_read : WavesAreRead
waves_are_read d k lead bs samples two fair e =
    let on = all_sent_after d k lead two bs fair in
    let placed : outputs_at step emit 0 (fresh d k) samples ≡ sent_at d lead bs =
    line_words 0 (fresh d k) samples ∙ ap (outputs_at on_level read_at 0 (fresh d k)) e ∙ on.words ∙ append-nil (sent_at d lead bs) in (
      unplaced step emit 0 (fresh d k) samples ∙ ap (map (λ q. q.1)) placed ∙ sent_unplaced d lead bs,
      placed,
      line_run (fresh d k) samples ∙ ap (run on_level (fresh d k)) e ∙ on.states,
    )
