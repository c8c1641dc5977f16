use Rattle.std.proofs.Common.{◌%◌, ◌^◌, ◌<◌, ◌≤◌, eqb, sym, ap, ◌∙◌, arith, pow_mono}
use native.Mathlib.Nat.{div-eq_of_lt}
use Rattle.std.proofs.lemmas.Bool.{le-ltb}
use Rattle.samples.proofs.line.is_high.Goals as goal

-- a sample is below 2 ^ 16, so that a line above 15 is low
pub returns-else-line-lt16 : goal.returns-else-line-lt16
returns-else-line-lt16 c =
    let high : 16 ≤ c.args.line = c.if-line-lt16.false in
    let small : c.args.sample < 2 ^ c.args.line = omega (arith, pow_mono high) in
    le-ltb _ 16 high ∙ ap (λ q. eqb (q % 2) 1) (sym (div-eq_of_lt small))
