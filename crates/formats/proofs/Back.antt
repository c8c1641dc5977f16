-- What is written is read back. Assumes nothing.
use Rattle.std.proofs.Common.{◌≡◌, ℕ, ◌+◌, ◌≤◌, List, [], ◌∷◌, ◌++◌, Ok, decimal, refl, ap, ◌∙◌, append_assoc, arith}
use Rattle.std.specs.Str.Parse.{digits_value}
use Rattle.std.proofs.lemmas.Fmt.{decimal_is_IsNumeral}
use Rattle.std.proofs.lemmas.List.{length-append}
use Rattle.std.proofs.lemmas.Bool.Decides.{nat_tests}
use Rattle.std.proofs.lemmas.List.Elements.{All-head, All-tail}
use Rattle.std.specs.Result.{result_map_both}
use Rattle.samples.specs.declared.run.Run.{Run}
use Rattle.samples.specs.Runs.{WellFormed}
use Rattle.formats.specs.Text.{line_of, text_of, lines_of, run_in, run_of, later, then_read, reading_from, runs_read, SixteenBit, RoundTrip}
use Rattle.formats.proofs.Parting.{lines_cut}
use Rattle.formats.proofs.Lines.{lacks_newline, run_two}

line_back : (n p : ℕ) (r : Run) → 1 ≤ r.count → r.count ≤ 65535 → r.sample ≤ 65535 → run_in n p (line_of r) ≡ Ok r
line_back n p r some most s =
    let sample = decimal_is_IsNumeral r.sample (omega arith) in
    let count = decimal_is_IsNumeral r.count (omega arith) in
    run_two n p (decimal r.sample) (decimal r.count) sample.0.0 sample.0.1 count.0.0 count.0.1
    ∙ ap (λ v. run_of n p v (digits_value 10 (decimal r.count))) sample.1 ∙ ap (run_of n p r.sample) count.1 ∙ grind (arith, nat_tests)

lines_back : (r : Run) (bs : List ℕ) → r.count ≤ 65535 → r.sample ≤ 65535 → lines_of ((line_of r ++ (10 ∷ [])) ++ bs) ≡ line_of r ∷ lines_of bs
lines_back r bs most s =
    ap lines_of (append_assoc (line_of r) (10 ∷ []) bs)
    ∙ lines_cut (line_of r) (10 ∷ bs) bs (simp length-append (omega arith))
    (lacks_newline (decimal r.sample) (decimal r.count) (decimal_is_IsNumeral r.sample (omega arith)).0.1 (decimal_is_IsNumeral r.count (omega arith)).0.1) (refl, refl)

back : (n p : ℕ) (rs : List Run) → WellFormed rs → SixteenBit rs → runs_read (reading_from n p (lines_of (text_of rs))) ≡ Ok rs
back n p [] w s = refl
back n p (r ∷ rs) w s =
    let P : Run → Type 0 = λ q. q.sample ≤ 65535 in
    let most = All-head P r rs s in
    ap (λ ls. runs_read (reading_from n p ls)) (lines_back r (text_of rs) w.1 most)
    ∙ ap (λ v. runs_read (then_read v (λ q. reading_from (n + 1) (later p q) (lines_of (text_of rs))))) (line_back n p r w.0 w.1 most)
    ∙ ap (result_map_both (λ qs. r ∷ qs) (λ f. f)) (back (n + 1) (later p r) rs w.2 (All-tail P r rs s))

pub round_trip : RoundTrip
round_trip n rs w s = back n 0 rs w s
