-- What the functions on whole captures answer. Assumes nothing: these are definitions.
use Rattle.std.specs.Prelude.{◌≡◌, ℕ, ◌≤◌, List, length, Ok, Err, string_bytes, Result, String}
use Rattle.std.specs.Result.{result_map_both}
use Rattle.std.specs.declared.alloc.Global.{Global}
use Rattle.samples.specs.declared.refusal.Refusal.{Refusal}
use Rattle.samples.specs.declared.run.Run.{Run}
use Rattle.samples.specs.Runs.{samples_of, rolled, Minimal}
use Rattle.formats.specs.declared.failure.Failure.{Failure}
use Rattle.formats.specs.declared.failure.Failure.TheVariants.{Memory, Refused}
use Rattle.formats.specs.Text.{text_of, runs_in}

-- the samples that a text stands for, its first line being line n; or the refusal of its first line at fault
abbrev pub samples_in : (n : ℕ) → List ℕ → Result (List ℕ) Refusal
samples_in n bs = result_map_both samples_of (λ f. f) (runs_in n bs)

-- a failure is the text's refusal; or want of memory, only where no line is at fault and there are runs
abbrev pub Fails : (n : ℕ) → Failure → List ℕ → Type 0
Fails n Memory bs = (rs : List Run) × (runs_in n bs ≡ Ok rs) × (1 ≤ length rs)
Fails n (Refused f) bs = samples_in n bs ≡ Err f

-- a text of runs, which is read back as those runs; or want of memory, where there are some
abbrev pub Writes : {E : Type 0} → Result (String Global) E → List Run → Type 0
Writes (Ok out) rs = (string_bytes out ≡ text_of rs) × ((n : ℕ) → runs_in n (string_bytes out) ≡ Ok rs)
Writes (Err e) rs = 1 ≤ length rs

-- the text of the fewest runs of the samples that a text stands for, which stands for the same samples
pub record Compacts (text out : List ℕ) : Type 0 where
  pub samples : List ℕ
  pub given : samples_in 0 text ≡ Ok samples
  pub written : out ≡ text_of (rolled samples)
  pub minimal : Minimal samples (rolled samples)
  pub same : samples_in 0 out ≡ samples_in 0 text
