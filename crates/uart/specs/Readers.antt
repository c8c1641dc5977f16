-- That a reader goes on as a reader: each is sound by its type. Assumes nothing.
use Rattle.std.specs.Prelude.{◌≡◌, ℕ, List, length, Ok, refl}
use Rattle.uart.specs.declared.words.Reader.{Reader}
use Rattle.uart.specs.declared.words.State.{State}
use Rattle.uart.specs.Decoder.{step, saved, restored}
use Rattle.uart.specs.Memory.{opened, restored-saved}
use Rattle.uart.specs.Sound.{step_sound}

-- what a reader remembers, and its settings
abbrev pub state_of : Reader → State
state_of r = r.state

-- after a sample
pub steps_on : (r : Reader) (x : ℕ) → (q : Reader) × (q.state ≡ step r.state x)
steps_on r x = (record { state = step r.state x; sound = step_sound r.state x r.sound }, refl)

-- what a memory is restored to
pub reopened : (r : Reader) (s : State) (m : List ℕ) → restored r.state m ≡ Ok s → ((q : Reader) × (q.state ≡ s)) × (length m ≡ 5) × ((n : List ℕ) → restored s n ≡ restored r.state n)
reopened r s m e =
    let o = opened r.state s m r.sound e in
    ((record { state = s; sound = o.0 }, refl), o.1, o.2)

-- and what it was restored from
pub comes_back : (r : Reader) → restored r.state (saved r.state) ≡ Ok r.state
comes_back r = restored-saved r.state r.sound
