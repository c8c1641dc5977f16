-- No runs that give the same samples are fewer than packed ones. Assumes nothing.
use Rattle.std.proofs.Common.{◌≡◌, ℕ, ◌+◌, ◌<◌, ◌≤◌, List, [], ◌∷◌, ◌++◌, length, get_or, drop, replicate, sym, ap, ◌∙◌, subst, ⊎_elim, arith, length-append}
use Rattle.std.proofs.lemmas.List.{append_assoc, length-replicate, get_or-replicate, get_or_append_left, get_or-append-add, drop-append-le, drop_at}
use Rattle.std.proofs.lemmas.Bool.{cases_lt}
use Rattle.samples.specs.declared.run.Run.{Run}
use Rattle.samples.specs.Runs.{samples_of, WellFormed, rolled, Minimal}
use Rattle.samples.proofs.Rolled.{Apart, Packed, rolled-gives, rolled-formed, rolled-packed}

abbrev block : Run → List ℕ
block r = replicate r.count r.sample

-- a sample of a run, in the samples
in_run : (q : Run) (rest : List ℕ) (i : ℕ) → i < q.count → get_or (block q ++ rest) i 0 ≡ q.sample
in_run q rest i h =
    get_or_append_left (block q) rest 0 i (omega (arith, length-replicate q.count q.sample)) ∙ get_or-replicate q.count i q.sample 0 h

-- a sample that a run q reaches, some samples after its start
reached : (q : Run) (rest front after : List ℕ) (i : ℕ) → block q ++ rest ≡ front ++ after → length front + i < q.count → get_or after i 0 ≡ q.sample
reached q rest front after i e h =
    sym (get_or-append-add front after i 0) ∙ ap (λ l. get_or l (length front + i) 0) (sym e) ∙ in_run q rest (length front + i) h

-- a run q that reaches past a run r has its sample, and there is a sample after r, which is the same
past :
    (q r : Run) (rest front after : List ℕ) → block q ++ rest ≡ front ++ (block r ++ after) → 1 ≤ r.count → length front + r.count < q.count →
    (1 ≤ length after) × (get_or after 0 0 ≡ r.sample)
past q r rest front after e l h =
    let long = length-replicate r.count r.sample in
    let here = sym (in_run r after 0 l) ∙ reached q rest front (block r ++ after) 0 e (omega arith) in
    let there = sym (get_or-append-add (block r) after 0 0) ∙ reached q rest front (block r ++ after) (length (block r) + 0) e (omega (arith, long)) in (
      omega (arith, ap length e, length-append (block q) rest, length-append front (block r ++ after), length-append (block r) after, long, length-replicate q.count q.sample),
      there ∙ sym here,
    )

-- so no run reaches past the first of packed runs
not_past :
    (q r : Run) (rs : List Run) (rest front : List ℕ) → q.count ≤ 65535 → WellFormed (r ∷ rs) → Apart r rs →
    block q ++ rest ≡ front ++ samples_of (r ∷ rs) → length front + r.count < q.count → ⊥
not_past q r [] rest front b f a e h = let some = (past q r rest front [] e f.0 h).0 in omega arith
not_past q r (s ∷ rs) rest front b f a e h =
    let same = (past q r rest front (samples_of (s ∷ rs)) e f.0 h).1 in
    ⊎_elim (λ full. omega arith) (λ other. other (sym (in_run s (samples_of rs) 0 f.2.0) ∙ same)) a

-- runs that give the samples of packed runs, and others before them, are at least as many
ahead : (rs qs : List Run) (front : List ℕ) → WellFormed rs → Packed rs → WellFormed qs → samples_of qs ≡ front ++ samples_of rs → length rs ≤ length qs
ahead [] qs front f p g e = omega arith
ahead (r ∷ rs) [] front f p g e =
    let some = ap length e ∙ length-append front (samples_of (r ∷ rs)) in
    absurd (omega (arith, some, f.0, length-append (block r) (samples_of rs), length-replicate r.count r.sample))
ahead (r ∷ rs) (q ∷ qs) front f p g e =
    let within : q.count ≤ length (front ++ block r) =
    ⊎_elim (λ h. absurd (not_past q r rs (samples_of qs) front g.1 f p.0 e h)) (λ h. omega (arith, length-append front (block r), length-replicate r.count r.sample))
    (cases_lt (length front + r.count) q.count) in
    let left =
    sym (drop_at (block q) (samples_of qs) q.count (length-replicate q.count q.sample)) ∙ ap (drop q.count) (e ∙ sym (append_assoc front (block r) (samples_of rs)))
    ∙ drop-append-le q.count (front ++ block r) (samples_of rs) within in
    let on = ahead rs qs (drop q.count (front ++ block r)) f.2 p.1 g.2 left in
    omega arith

pub rolled-minimal : (ss : List ℕ) → Minimal ss (rolled ss)
rolled-minimal ss =
    record {
      formed = rolled-formed ss;
      gives = rolled-gives ss;
      fewest = λ qs g e. ahead (rolled ss) qs [] (rolled-formed ss) (rolled-packed ss) g (e ∙ sym (rolled-gives ss));
    }

pub packed_minimal : (rs : List Run) → rolled (samples_of rs) ≡ rs → Minimal (samples_of rs) rs
packed_minimal rs e = subst (Minimal (samples_of rs)) e (rolled-minimal (samples_of rs))
