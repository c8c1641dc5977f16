-- A text begins with one header line at most. Assumes nothing.
use Rattle.std.proofs.Common.{◌≡◌, ℕ, min, List, ◌++◌, codes, sym, ◌∙◌, subst}
use Rattle.std.proofs.lemmas.List.{append_cancel_left}
use Rattle.formats.specs.Number.{TwoNumbers, NoTwoNumbers}
use Rattle.formats.proofs.Lines.{same_numbers}
use Rattle.readout.specs.declared.header.Settings.TheVariants.{Serial}
use Rattle.readout.specs.Header.{SerialHeader, NoHeader}

-- another reader finds the numbers at the same place
numbers_at : (text rest : List ℕ) (k d : ℕ) (after : List ℕ) → text ≡ codes "serial line " ++ rest → SerialHeader text k d after → TwoNumbers rest (codes " bit ") k d after
numbers_at text rest k d after begins h =
    subst (λ l. TwoNumbers l (codes " bit ") k d after) (append_cancel_left (codes "serial line ") h.rest rest (sym h.begins ∙ begins)) h.numbers

pub no_header : (text rest : List ℕ) → text ≡ codes "serial line " ++ rest → NoTwoNumbers rest (codes " bit ") → NoHeader text
no_header text rest begins not-two (Serial k d) after h = not-two k d after (numbers_at text rest k d after begins h)

pub same_header :
    (text : List ℕ) (k d : ℕ) (after : List ℕ) (l e : ℕ) (rest : List ℕ) → SerialHeader text k d after → SerialHeader text l e rest →
    (min k 1000001 ≡ min l 1000001) × (min d 1000001 ≡ min e 1000001) × (after ≡ rest)
same_header text k d after l e rest h g = same_numbers h.numbers (numbers_at text h.rest l e rest h.begins g)
