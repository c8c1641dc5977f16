-- What is listed of samples, one after the other. Assumes nothing.
use Rattle.std.proofs.Common.{◌≡◌, ℕ, suc, ◌+◌, ◌-◌, ◌<◌, ◌≤◌, List, ◌++◌, length, replicate, Some, None, Option, refl, sym, ap, ◌∙◌, append_assoc, arith}
use Rattle.std.specs.Option.{option_map}
use Rattle.decoder.specs.Machine.{before, outputs_at}
use Rattle.readout.specs.Listing.{line_at, listing}

module _ {S O : Type 0} (step : S → ℕ → S) (emit : S → ℕ → Option O) (words : O → List ℕ) where
  -- The reader is at s and the next sample at place p: if what is read of `rest` is listed behind `out`, all is listed.
  pub record Lists (start : S) (all : List ℕ) (s : S) (p : ℕ) (rest out : List ℕ) : Type 0 where
    pub text : out ++ listing words (outputs_at step emit p s rest) ≡ listing words (outputs_at step emit 0 start all)
    pub few : length (outputs_at step emit p s rest) ≤ length (outputs_at step emit 0 start all)

-- a sample of a run is fed, after i of it: x comes n times in the run, and then come more
module _
    {S O : Type 0} {step : S → ℕ → S} {emit : S → ℕ → Option O} {words : O → List ℕ} {start : S} {all : List ℕ} {s : S} {i n : ℕ} {out : List ℕ}
    (place x : ℕ) (more : List ℕ) (h : i < n) (l : Lists step emit words start all s (place + i) (replicate (n - i) x ++ more) out) where
  read : (o : Option O) (t : S) → o ≡ emit s x → t ≡ step s x →
      outputs_at step emit (place + i) s (replicate (n - i) x ++ more)
      ≡ before (option_map (λ v. (place + i, v)) o) (outputs_at step emit (place + (i + 1)) t (replicate (n - (i + 1)) x ++ more))
  read o t e next =
      let one : n - i ≡ suc (n - (i + 1)) = omega arith in
      let later : place + (i + 1) ≡ place + i + 1 = omega arith in
      ap (λ k. outputs_at step emit (place + i) s (replicate k x ++ more)) one ∙ rw (e, next, later)

  -- nothing is read of it
  pub quiet : (t : S) → None ≡ emit s x → t ≡ step s x → Lists step emit words start all t (place + (i + 1)) (replicate (n - (i + 1)) x ++ more) out
  quiet t e next =
      let is = read None t e next in
      record { text = ap (λ os. out ++ listing words os) (sym is) ∙ l.text; few = omega (arith, l.few, ap length is) }

  -- an output is read of it, and its line is written
  pub output_listed :
      (v : O) (t : S) → Some v ≡ emit s x → t ≡ step s x →
      Lists step emit words start all t (place + (i + 1)) (replicate (n - (i + 1)) x ++ more) (out ++ line_at words (place + i, v))
  output_listed v t e next =
      let is = read (Some v) t e next in
      record { text = rw append_assoc (ap (λ os. out ++ listing words os) (sym is) ∙ l.text); few = omega (arith, l.few, ap length is) }

  -- an output is read of it, so that something is read
  pub something_read : (v : O) → Some v ≡ emit s x → 1 ≤ length (outputs_at step emit 0 start all)
  something_read v e = omega (arith, l.few, ap length (read (Some v) (step s x) e refl))
