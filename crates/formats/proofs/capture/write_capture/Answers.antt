use Rattle.std.proofs.Common.{◌≡◌, ℕ, ◌≤◌, [], ◌∷◌, ◌++◌, Ok, get_or, string_bytes, sym, ap, ◌∙◌, subst, arith}
use Rattle.std.proofs.lemmas.List.{take_all}
use Rattle.std.proofs.lemmas.List.Elements.{All-more}
use Rattle.samples.specs.declared.run.Run.{Run}
use Rattle.formats.specs.Text.{line_of, text_of, runs_in, SixteenBit}
use Rattle.formats.proofs.Back.{round_trip}
use Rattle.formats.proofs.Writing.{text_more}
use Rattle.formats.proofs.capture.write_capture.Goals as goal

pub loop-run-preserved : goal.loop-run-preserved
loop-run-preserved c =
    let rs = c.as_slice-runs.result.now in
    let i = c.loop-run.run-index in
    let zero : Run = record { sample = 0; count = 0 } in (
      c.put_line.ensures.bytes ∙ ap (λ l. l ++ (line_of (get_or rs i zero) ++ (10 ∷ []))) c.loop-run.invariant.0 ∙ sym (text_more rs i zero c.loop-run-test.true),
      All-more (λ r. r.sample ≤ 65535) rs i zero c.loop-run-test.true c.loop-run.invariant.1 c.put_line.ensures.bound,
      omega (arith, c.put_line.ensures.len, c.put_line.ensures.capacity, c.loop-run.invariant.2),
    )

pub returns : goal.returns
returns c =
    let rs = c.as_slice-runs.result.now in
    let all = take_all c.loop-run.run-index rs c.loop-run-test.false in
    let text = c.loop-run.invariant.0 ∙ ap text_of all in
    subst (λ qs. (string_bytes c.loop-run.out ≡ text_of qs) × ((n : ℕ) → runs_in n (string_bytes c.loop-run.out) ≡ Ok qs)) c.as_slice-runs.ensures.value
    (text, λ n. ap (runs_in n) text ∙ round_trip n rs c.as_slice-runs.ensures.minimal.formed (subst SixteenBit all c.loop-run.invariant.1))
