-- Calls of `serial` on the pieces of a stream. Assumes nothing.
use Rattle.std.proofs.Common.{◌≡◌, ℕ, ◌+◌, ◌*◌, ◌≤◌, List, [], ◌∷◌, ◌++◌, map, length, Some, None, Ok, Option, Result, sym, refl, ap, ◌∙◌, subst, ⊎_elim, arith, rules}
use Rattle.std.specs.List.{flat_map}
use Rattle.std.proofs.lemmas.Grind.{flat_map-append}
use Rattle.std.proofs.lemmas.Bool.{le-leb, le-ltb}
use Rattle.samples.specs.Roll.{filled}
use Rattle.samples.specs.declared.refusal.Refusal.{Refusal}
use Rattle.decoder.specs.Machine.{run, outputs, outputs_at, placed_within}
use Rattle.decoder.specs.Reading.{After, reading, read_all, numbers_given, numbers_read, CutIsRead}
use Rattle.decoder.proofs.Calls.{reads, has_read, restored_after, given, cut_is_read}
use Rattle.decoder.proofs.Cut.{run-append, outputs-append, unplaced, numbers-few}
use Rattle.decoder.proofs.Places.{piece_within}
use Rattle.uart.specs.declared.words.Reader.{Reader}
use Rattle.uart.specs.declared.words.State.{State}
use Rattle.uart.specs.declared.words.Word.{Word}
use Rattle.uart.specs.Decoder.{step, emit, encoded, saved, restored, fresh, setting_at_fault, unless_refused, serial_after}
use Rattle.uart.specs.Memory.{length-encoded, restored-step}
use Rattle.uart.specs.Readers.{steps_on, reopened, comes_back}
use Rattle.uart.specs.Sound.{fresh_sound}
use Rattle.uart.specs.Stream.{InRange, Carries, share, ReadsItsShare, Call, calls, AllAmple, AllRead, StreamsAreRead, CallsAreCut}
use Rattle.uart.proofs.Rules.{looks_are_read}
use Rattle.uart.proofs.Waves.{waves_are_read}

-- SETTINGS

not_at_fault : (d k : ℕ) → InRange d k → setting_at_fault d k ≡ None
not_at_fault d k h = rw (le-ltb d 2 h.0, le-ltb 1000000 d h.1, le-ltb 15 k h.2)

-- the reader that has read nothing yet
abbrev fresh_reader : (d k : ℕ) → InRange d k → Reader
fresh_reader d k h = record { state = fresh d k; sound = fresh_sound d k h.0 h.1 h.2 }

-- what it comes to over samples is restored from the memory that it leaves
after : (d k : ℕ) → InRange d k → (s : State) (memory xs : List ℕ) → restored (fresh d k) memory ≡ Ok s → restored (fresh d k) (saved (run step s xs)) ≡ Ok (run step s xs)
after d k h = restored_after (λ (r : Reader). r.state) step 5 saved restored steps_on reopened comes_back restored-step (fresh_reader d k h)

-- a reader with these settings is restored after any samples
abbrev GoesOn : (d k : ℕ) → State → Type 0
GoesOn d k r = (xs : List ℕ) → restored (fresh d k) (saved (run step r xs)) ≡ Ok (run step r xs)

fresh_goes_on : (d k : ℕ) (h : InRange d k) → GoesOn d k (fresh d k)
fresh_goes_on d k h xs = after d k h (fresh d k) (saved (fresh d k)) xs (comes_back (fresh_reader d k h))

later_goes_on : (d k : ℕ) (r : State) (xs : List ℕ) → GoesOn d k r → GoesOn d k (run step r xs)
later_goes_on d k r xs g ys = rw (← run-append step emit r xs ys) (g (xs ++ ys))

pub in_range : (d k : ℕ) → setting_at_fault d k ≡ None → InRange d k
in_range = search rules

-- what a reader with settings in their ranges comes to
pub passed_on :
    (d k : ℕ) (r : State) (samples memory room : List ℕ) → setting_at_fault d k ≡ None → r ≡ fresh d k →
    reading step emit encoded saved (restored r memory) samples memory room ≡ serial_after d k samples memory room
passed_on d k r samples memory room fine e = rw (fine, e)

passes : (d k : ℕ) (samples memory room : List ℕ) → InRange d k → serial_after d k samples memory room ≡ reading step emit encoded saved (restored (fresh d k) memory) samples memory room
passes d k samples memory room h = sym (passed_on d k (fresh d k) samples memory room (not_at_fault d k h) refl)

-- what a stream carries is what the reader reads of it
pub carried : (d k : ℕ) (samples : List ℕ) (words : List (ℕ × Word)) → 2 ≤ d → Carries d k samples words → outputs_at step emit 0 (fresh d k) samples ≡ words
carried d k samples words two c =
    ⊎_elim (λ f. (waves_are_read d k f.0 f.1 samples two f.2 f.3).1 ∙ sym f.4) (λ rule. looks_are_read d k samples two ∙ sym rule) c

-- ONE CALL

reads_its_share : (d k : ℕ) (samples memory room : List ℕ) → ReadsItsShare d k samples memory room (serial_after d k samples memory room)
reads_its_share d k samples memory room words before rest h c follows few fits =
    let start = fresh d k in
    let r = run step start before in
    let n = length before in
    let placed = sym (piece_within step emit start before samples rest) ∙ ap (placed_within n (n + length samples)) (carried d k (before ++ (samples ++ rest)) words h.0 c) in
    let mine : outputs step emit r samples ≡ share words before samples = unplaced step emit n r samples ∙ ap (map (λ p. p.1)) placed in
    let restores : restored start memory ≡ Ok r = ap (restored start) follows ∙ fresh_goes_on d k h before in
    let enough : length (numbers_read step emit encoded r samples) ≤ length room = rw mine fits in
    let all = passes d k samples memory room h ∙ reads step emit encoded saved samples memory room (restored start memory) r restores few (le-leb _ _ enough) in (
      ap (λ (a : After). a.answer) all ∙ ap (λ ws. Ok (length ws)) mine,
      ap (λ (a : After). a.memory) all ∙ ap saved (sym (run-append step emit start before samples)),
      ap (λ (a : After). a.room) all ∙ ap (λ ws. filled (flat_map encoded ws) room) mine,
    )

-- the same of what a call answers and leaves behind
pub shares :
    (d k : ℕ) (samples memory room : List ℕ) (answer : Result ℕ Refusal) (left written : List ℕ) → answer ≡ (serial_after d k samples memory room).answer →
    left ≡ (serial_after d k samples memory room).memory → written ≡ (serial_after d k samples memory room).room →
    ReadsItsShare d k samples memory room (record { answer = answer; memory = left; room = written })
shares d k samples memory room answer left written a m r words before rest h c follows few fits =
    let s = reads_its_share d k samples memory room words before rest h c follows few fits in (a ∙ s.0, m ∙ s.1, r ∙ s.2)

-- ALL CALLS

abbrev piece_of : Call → List ℕ
piece_of c = c.piece

abbrev numbers_of : After → List ℕ
numbers_of a = numbers_given 2 a.answer a.room

-- a call from the memory of a reader is not refused where its room is ample
ample_call :
    (d k : ℕ) (r : State) (c : Call) → InRange d k → GoesOn d k r → length c.piece ≤ 65535 → length c.piece * 2 ≤ length c.room →
    serial_after d k c.piece (saved r) c.room ≡ read_all step emit encoded saved r c.piece c.room
ample_call d k r c h g few ample =
    let most = numbers-few step emit encoded 2 length-encoded r c.piece in
    passes d k c.piece (saved r) c.room h
    ∙ reads step emit encoded saved c.piece (saved r) c.room (restored (fresh d k) (saved r)) r (g []) few (le-leb _ _ (omega (arith, most, ample)))

-- and what it is that a call reads
read_call :
    (d k n : ℕ) (r : State) (c : Call) → InRange d k → GoesOn d k r → (serial_after d k c.piece (saved r) c.room).answer ≡ Ok n →
    serial_after d k c.piece (saved r) c.room ≡ read_all step emit encoded saved r c.piece c.room
read_call d k n r c h g e =
    let same = passes d k c.piece (saved r) c.room h in
    let read = has_read step emit encoded saved c.piece (saved r) c.room (restored (fresh d k) (saved r)) n (sym (ap (λ (a : After). a.answer) same) ∙ e) in
    let is : read.reader ≡ r = (let f = sym read.restored ∙ g [] in cc) in
    same ∙ read.all ∙ ap (λ q. read_all step emit encoded saved q c.piece c.room) is

-- the calls that follow one
next_calls :
    (d k : ℕ) (r : State) (c : Call) (cs : List Call) → serial_after d k c.piece (saved r) c.room ≡ read_all step emit encoded saved r c.piece c.room →
    calls d k (serial_after d k c.piece (saved r) c.room).memory cs ≡ calls d k (saved (run step r c.piece)) cs
next_calls d k r c cs all = ap (λ (a : After). calls d k a.memory cs) all

all_read : (d k : ℕ) (r : State) (cs : List Call) → InRange d k → GoesOn d k r → AllAmple cs → AllRead (calls d k (saved r) cs)
all_read d k r [] h g ample = tt
all_read d k r (c ∷ cs) h g ample =
    let all = ample_call d k r c h g ample.0 ample.1 in (
      (length (outputs step emit r c.piece), ap (λ (a : After). a.answer) all),
      subst AllRead (sym (next_calls d k r c cs all)) (all_read d k (run step r c.piece) cs h (later_goes_on d k r c.piece g) ample.2),
    )

all_numbers :
    (d k : ℕ) (r : State) (cs : List Call) → InRange d k → GoesOn d k r → AllRead (calls d k (saved r) cs) →
    flat_map numbers_of (calls d k (saved r) cs) ≡ flat_map encoded (outputs step emit r (flat_map piece_of cs))
all_numbers d k r [] h g read = refl
all_numbers d k r (c ∷ cs) h g read =
    let t = run step r c.piece in
    let os = outputs step emit r c.piece in
    let all = read_call d k read.0.0 r c h g read.0.1 in
    let next = next_calls d k r c cs all in
    let here : numbers_of (serial_after d k c.piece (saved r) c.room) ≡ flat_map encoded os =
    ap numbers_of all ∙ given step emit encoded 2 saved restored length-encoded r c.piece c.room (length os) refl in
    ap (λ l. l ++ flat_map numbers_of (calls d k (serial_after d k c.piece (saved r) c.room).memory cs)) here
    ∙ ap (λ l. flat_map encoded os ++ flat_map numbers_of l) next
    ∙ ap (λ l. flat_map encoded os ++ l) (all_numbers d k t cs h (later_goes_on d k r c.piece g) (subst AllRead next read.1))
    ∙ sym (flat_map-append encoded os (outputs step emit t (flat_map piece_of cs))) ∙ sym (ap (flat_map encoded) (outputs-append step emit r c.piece (flat_map piece_of cs)))

pub streams_are_read : StreamsAreRead
streams_are_read d k words cs h c =
    let placed = carried d k (flat_map piece_of cs) words h.0 c in (
      all_read d k (fresh d k) cs h (fresh_goes_on d k h),
      λ read.
          all_numbers d k (fresh d k) cs h (fresh_goes_on d k h) read
          ∙ ap (flat_map encoded) (unplaced step emit 0 (fresh d k) (flat_map piece_of cs) ∙ ap (map (λ p. p.1)) placed),
    )

-- TWO CALLS

-- a call, whatever was found of its settings
abbrev call_at : Option Refusal → (d k : ℕ) → (samples memory room : List ℕ) → After
call_at f d k samples memory room = unless_refused f memory room (reading step emit encoded saved (restored (fresh d k) memory) samples memory room)

calls_are_cut_at : (f : Option Refusal) (d k : ℕ) → (f ≡ None → InRange d k) → CutIsRead 2 (call_at f d k)
calls_are_cut_at (Some f) d k range = (
  λ xs ys memory room₁ room₂ room n m first. absurd cc,
  λ xs ys memory room₁ room₂ n place first. absurd cc,
)
calls_are_cut_at None d k range = cut_is_read step emit encoded 2 saved restored length-encoded (fresh d k) (after d k (range refl))

pub calls_are_cut : CallsAreCut
calls_are_cut d k = calls_are_cut_at (setting_at_fault d k) d k (in_range d k)
