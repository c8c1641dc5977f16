-- That a reader comes back from its memory as it was, with the settings that are asked for. Assumes nothing.
use Rattle.std.specs.Prelude.{◌≡◌, ℕ, ◌-◌, ◌^◌, Bool, true, false, not, ◌&&◌, List, length, Ok, Err, Result, ◌==◌, nat_le, nat_lt, slice_index, refl}
use Rattle.std.proofs.Common.{ap, subst, ◌∙◌}
use Rattle.std.proofs.lemmas.Bool.{cond-false, cond_both, eqb-true, leb-false, ltb-false, le-ltb, lt-leb}
use Rattle.samples.specs.Line.{level}
use Rattle.uart.specs.declared.words.Word.{Word}
use Rattle.uart.specs.declared.words.Word.TheVariants.{Byte, Broken}
use Rattle.uart.specs.declared.words.State.{State}
use Rattle.uart.specs.Decoder.{digit, step, encoded, saved, reader_in, restored}
use Rattle.uart.specs.Sound.{Sound}

-- a word is two numbers
pub length-encoded : (o : Word) → length (encoded o) ≡ 2
length-encoded (Byte v) = refl
length-encoded (Broken v) = refl

-- a sample changes no setting
pub restored-step : (s : State) (x : ℕ) (m : List ℕ) → restored (step s x) m ≡ restored s m
restored-step s x m =
    let Same : State → Type 0 = λ r. restored r m ≡ restored s m in
    let l = level s.line x in
    cond_both s.busy _ _ Same
    (λ _.
    cond_both (s.wait == 0) _ _ Same
    (λ _.
    cond_both (s.next == 0) _ _ Same (λ _. cond_both l _ _ Same (λ _. refl) (λ _. refl))
    (λ _. cond_both (nat_le s.next 8) _ _ Same (λ _. refl) (λ _. refl)))
    (λ _. refl))
    (λ _. cond_both (s.level && not l) _ _ Same (λ _. refl) (λ _. refl))

-- WHAT IS SAVED IS RESTORED

digit-few : (b : Bool) → nat_lt 1 (digit b) ≡ false
digit-few true = refl
digit-few false = refl

digit-back : (b : Bool) → (digit b == 1) ≡ b
digit-back true = refl
digit-back false = refl

reader_in-saved : (s : State) → reader_in s (saved s) ≡ s
reader_in-saved s = rw (digit-back s.busy, digit-back s.level)

pub restored-saved : (s : State) → Sound s → restored s (saved s) ≡ Ok s
restored-saved s h =
    cond-false _ _ _ (digit-few s.busy) ∙ cond-false _ _ _ (digit-few s.level) ∙ cond-false _ _ _ (lt-leb s.bit s.wait h.wait_small)
    ∙ cond-false _ _ _ (le-ltb 9 s.next h.next_small) ∙ cond-false _ _ _ (lt-leb (2 ^ (s.next - 1)) s.bits h.bits_small) ∙ ap Ok (reader_in-saved s)

-- WHAT IS RESTORED IS SOUND

-- it also has the settings that were asked for
abbrev Opened : (s t : State) (m : List ℕ) → Type 0
Opened s t m = Sound t × (length m ≡ 5) × ((n : List ℕ) → restored t n ≡ restored s n)

not_err : {X : Type 0} (t : State) (place : ℕ) → ◌≡◌ {A = Result State ℕ} (Err place) (Ok t) → X
not_err t place e = absurd cc

opened-in : (s t : State) (m : List ℕ) → Opened s (reader_in s m) m → ◌≡◌ {A = Result State ℕ} (Ok (reader_in s m)) (Ok t) → Opened s t m
opened-in s t m o e =
    let same : reader_in s m ≡ t = cc in
    subst (λ r. Opened s r m) same o

pub opened : (s t : State) (m : List ℕ) → Sound s → restored s m ≡ Ok t → Opened s t m
opened s t m h =
    let Opens : Result State ℕ → Type 0 = λ r. r ≡ Ok t → Opened s t m in
    cond_both (length m == 5) _ _ Opens
    (λ long.
    cond_both (nat_lt 1 (slice_index m 0)) _ _ Opens (λ _. not_err t 0)
    (λ _.
    cond_both (nat_lt 1 (slice_index m 1)) _ _ Opens (λ _. not_err t 1)
    (λ _.
    cond_both (nat_le s.bit (slice_index m 2)) _ _ Opens (λ _. not_err t 2)
    (λ wait.
    cond_both (nat_lt 9 (slice_index m 3)) _ _ Opens (λ _. not_err t 3)
    (λ next.
    cond_both (nat_le (2 ^ (slice_index m 3 - 1)) (slice_index m 4)) _ _ Opens (λ _. not_err t 4)
    (λ bits.
    opened-in s t m (
      record {
        bit_low = h.bit_low;
        bit_high = h.bit_high;
        line_small = h.line_small;
        wait_small = leb-false _ _ wait;
        next_small = ltb-false _ _ next;
        bits_small = leb-false _ _ bits;
      },
      eqb-true _ _ long,
      λ n. refl,
    )))))))
    (λ _. not_err t _)
