use Rattle.std.proofs.Common.{refl, inr, arith}
use Rattle.samples.specs.Runs.{rolled}
use Rattle.samples.proofs.Fewest.{rolled-minimal}
use Rattle.samples.proofs.piece.roll.Goals as goal

pub returns-then-room-runs : goal.returns-then-room-runs
returns-then-room-runs c =
    let fewest = (rolled-minimal c.args.samples.now).fewest in
    (inr (refl, refl, c.in_ok-check_piece.ensures, λ rs formed gives. omega (arith, fewest rs formed gives, c.count_runs-runs.ensures.value, c.if-room-runs.true)), refl)

pub returns : goal.returns
returns c = (
  c.in_ok-check_piece.ensures,
  (rolled c.args.samples.now, rolled-minimal c.args.samples.now, c.count_runs-runs.ensures.value, c.if-room-runs.false, c.write_runs.ensures),
)
