-- Each word holds a byte. Assumes nothing.
use Rattle.std.proofs.Common.{ℕ, ◌-◌, ◌<◌, ◌≤◌, Bool, eqb, leb, List, [], ◌∷◌, Some, None, Option, arith, pow_mono}
use Rattle.std.proofs.lemmas.Bool.{cond_both}
use Rattle.samples.specs.Line.{level}
use Rattle.decoder.specs.Machine.{before, outputs}
use Rattle.uart.specs.declared.words.State.{State}
use Rattle.uart.specs.declared.words.Word.{Word}
use Rattle.uart.specs.Decoder.{read_at, step, emit, fresh}
use Rattle.uart.specs.Rule.{value_of, AllBytes, BytesOnly}
use Rattle.uart.specs.Memory.{opened}
use Rattle.uart.specs.Sound.{Sound, fresh_sound, step_sound}

abbrev Fine : Option Word → Type 0
Fine None = Unit {0}
Fine (Some w) = value_of w < 256

read_fine : (r : State) (x : Bool) → Sound r → Fine (read_at r x)
read_fine r x h =
    let few : r.next - 1 ≤ 8 = omega (arith, h.next_small) in
    let small : r.bits < 256 = omega (arith, h.bits_small, pow_mono few) in
    cond_both r.busy _ _ Fine
    (λ _.
    cond_both (eqb r.wait 0) _ _ Fine
    (λ _. cond_both (leb r.next 8) _ _ Fine (λ _. tt) (λ _. cond_both x _ _ (λ w. value_of w < 256) (λ _. small) (λ _. small))) (λ _. tt))
    (λ _. tt)

before-fine : (o : Option Word) (ws : List Word) → Fine o → AllBytes ws → AllBytes (before o ws)
before-fine None ws f a = a
before-fine (Some w) ws f a = (f, a)

all_fine : (r : State) (samples : List ℕ) → Sound r → AllBytes (outputs step emit r samples)
all_fine r [] h = tt
all_fine r (s ∷ ss) h =
    before-fine (emit r s) (outputs step emit (step r s) ss) (read_fine r (level r.line s) h) (all_fine (step r s) ss (step_sound r s h))

pub bytes_only : BytesOnly
bytes_only d k m r samples two most few e = all_fine r samples (opened (fresh d k) r m (fresh_sound d k two most few) e).0
