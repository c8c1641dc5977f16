-- A text is read line by line, and its runs are kept as the runs of their samples. Assumes nothing.
use Rattle.std.proofs.Common.{◌≡◌, ℕ, ◌≤◌, true, false, List, [], ◌∷◌, ◌++◌, length, replicate, is_ok, Ok, Err, Result, sym, refl, ap, ◌∙◌, append_assoc, arith, length-append}
use Rattle.std.proofs.lemmas.Bool.{false≢true}
use Rattle.std.proofs.lemmas.List.{length-replicate, flat_map_more}
use Rattle.std.specs.Result.{result_map_both}
use Rattle.samples.specs.declared.refusal.Refusal.{Refusal}
use Rattle.samples.specs.declared.run.Run.{Run}
use Rattle.samples.specs.Runs.{samples_of, WellFormed}
use Rattle.samples.specs.Stream.{Kept, Extends}
use Rattle.formats.specs.declared.failure.Failure.TheVariants.{Memory}
use Rattle.formats.specs.Text.{runs_read, runs_in}
use Rattle.formats.specs.Capture.{samples_in, Fails}

-- the runs of a text of which these are read, and `left` is left
abbrev pub onto : List Run → Result (List Run) Refusal → Result (List Run) Refusal
onto rs left = result_map_both (λ qs. rs ++ qs) (λ f. f) left

onto-onto : (rs : List Run) (r : Run) (o : Result (List Run) Refusal) → onto rs (result_map_both (λ qs. r ∷ qs) (λ f. f) o) ≡ onto (rs ++ (r ∷ [])) o
onto-onto rs r (Ok qs) = ap Ok (sym (append_assoc rs (r ∷ []) qs))
onto-onto rs r (Err f) = refl

pub read_more :
    (all : Result (List Run) Refusal) (left more : List (Result Run Refusal)) (rs : List Run) (r : Run) → all ≡ onto rs (runs_read left) → left ≡ Ok r ∷ more → all ≡ onto (rs ++ (r ∷ [])) (runs_read more)
read_more all left more rs r so_far next =
    so_far ∙ ap (λ l. onto rs (runs_read l)) next ∙ onto-onto rs r (runs_read more)

-- WHAT IS KEPT

-- the samples of the runs that were read, or want of memory, after which nothing more is kept
abbrev pub KeptSo : {E : Type 0} → Result (Unit {0}) E → (samples : List ℕ) → (rs : List Run) → Type 0
KeptSo (Ok u) samples rs = samples ≡ samples_of rs
KeptSo (Err e) samples rs = 1 ≤ length rs

-- one run more is pushed
pub kept_more :
    {E : Type 0} (was is : Result (Unit {0}) E) (before after : Kept) (rs : List Run) (r : Run) → true ≡ is_ok was → KeptSo was before.samples rs →
    Extends is before (replicate r.count r.sample) after → KeptSo is after.samples (rs ++ (r ∷ []))
kept_more (Ok u) (Ok v) before after rs r ok same pushed = pushed ∙ ap (λ ss. ss ++ replicate r.count r.sample) same ∙ flat_map_more (λ q. replicate q.count q.sample) [] rs r
kept_more (Ok u) (Err e) before after rs r ok same pushed = omega (arith, length-append rs (r ∷ []))
kept_more (Err e) is before after rs r ok same pushed = absurd (false≢true (sym ok))

-- one run more is read, and not kept
pub kept_none : {E : Type 0} (was : Result (Unit {0}) E) (samples : List ℕ) (rs : List Run) (r : Run) → false ≡ is_ok was → KeptSo was samples rs → KeptSo was samples (rs ++ (r ∷ []))
kept_none (Ok u) samples rs r full same = absurd (false≢true full)
kept_none (Err e) samples rs r full some = omega (arith, length-append rs (r ∷ []))

-- MEMORY

some_samples : (rs : List Run) → WellFormed rs → 1 ≤ length rs → 1 ≤ length (samples_of rs)
some_samples [] formed some = absurd (omega arith)
some_samples (r ∷ rs) formed some =
    omega (arith, formed.0, length-append (replicate r.count r.sample) (samples_of rs), length-replicate r.count r.sample)

some_runs : (o : Result (List Run) Refusal) (ss : List ℕ) → result_map_both samples_of (λ f. f) o ≡ Ok ss → 1 ≤ length ss → (rs : List Run) × (o ≡ Ok rs) × (1 ≤ length rs)
some_runs (Ok []) ss e some = let none : ss ≡ [] = cc in absurd (omega (arith, ap length none))
some_runs (Ok (r ∷ rs)) ss e some = (r ∷ rs, refl, omega arith)
some_runs (Err f) ss e some = let z : ◌≡◌ {A = ℕ} 0 1 = cc in absurd (omega arith)

-- a text that stands for the samples of some runs has runs
pub text_some : (n : ℕ) (text : List ℕ) (rs : List Run) → samples_in n text ≡ Ok (samples_of rs) → WellFormed rs → 1 ≤ length rs → Fails n Memory text
text_some n text rs e formed some = some_runs (runs_in n text) (samples_of rs) e (some_samples rs formed some)
