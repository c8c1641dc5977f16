-- What the iterator over runs has given, and what a stream that took it holds. Assumes nothing.
use Rattle.std.proofs.Common.{◌≡◌, ℕ, ◌<◌, List, [], ◌∷◌, ◌++◌, length, replicate, refl, sym, ap, ◌∙◌, append_assoc, append-nil, arith}
use Rattle.std.specs.Iterator.{Yields, YieldsFirst}
use Rattle.std.proofs.lemmas.List.Concat.{flat_map-append}
use Rattle.samples.specs.declared.run.Run.{Run}
use Rattle.samples.specs.declared.run.RunsOf.{RunsOf}
use Rattle.samples.specs.Runs.{samples_of, rolled}
use Rattle.samples.proofs.Appends.{more_runs}

-- the runs that are left to give
abbrev pub left : RunsOf → List Run
left s = rolled s.rest.now

-- those given and those left are all of them
pub given : (s : RunsOf) (rs : List Run) (t : RunsOf) → Yields (YieldsFirst left) s rs t → left s ≡ rs ++ left t
given s [] t y = ap left y
given s (r ∷ rs) t y = y.1 ∙ ap (λ qs. r ∷ qs) (given y.0 rs t y.2)

-- samples and those of some runs go on with one run more
pub taken_more :
    (ss was is : List ℕ) (qs : List Run) (r : Run) → was ≡ ss ++ samples_of qs → is ≡ was ++ replicate r.count r.sample → is ≡ ss ++ samples_of (qs ++ (r ∷ []))
taken_more ss was is qs r e more =
    let run = replicate r.count r.sample in
    more ∙ ap (λ ys. ys ++ run) e ∙ append_assoc ss (samples_of qs) run ∙ ap (λ ys. ss ++ (samples_of qs ++ ys)) (sym (append-nil run))
    ∙ ap (λ ys. ss ++ ys) (sym (flat_map-append (λ q. replicate q.count q.sample) qs (r ∷ [])))

-- memory that does not suffice for the run that comes next does not suffice for all of them
pub taken_wants :
    (ss was : List ℕ) (qs more : List Run) (r : Run) (room : ℕ) → was ≡ ss ++ samples_of qs → room < length (rolled (was ++ replicate r.count r.sample)) →
    room < length (rolled (ss ++ samples_of (qs ++ (r ∷ more))))
taken_wants ss was qs more r room e wants =
    let front = samples_of (qs ++ (r ∷ [])) in
    let all = ap samples_of (sym (append_assoc qs (r ∷ []) more)) ∙ flat_map-append (λ q. replicate q.count q.sample) (qs ++ (r ∷ [])) more in
    let long = ap (λ ys. length (rolled (ss ++ ys))) all ∙ ap (λ ys. length (rolled ys)) (sym (append_assoc ss front (samples_of more))) in
    omega (arith, more_runs (ss ++ front) (samples_of more), ap (λ ys. length (rolled ys)) (taken_more ss was _ qs r e refl), long)
