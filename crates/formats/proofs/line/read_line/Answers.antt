use Rattle.std.proofs.Common.{arith}
use Rattle.std.proofs.lemmas.Bool.Decides.{nat_tests}
use Rattle.formats.proofs.Lines.{line_read, line_refused}
use Rattle.formats.proofs.line.read_line.Goals as goal
use Rattle.formats.proofs.line.read_line.Goals.{in_default-try_from-via-in-Ok+then-try_from-lt1, in_default-try_from-via-in_default}

pub returns-in_default : goal.returns-in_default
returns-in_default c = line_refused c.args.line c.args.place c.args.text.now c.requires c.in_default.ensures

pub returns-in_default-try_from : goal.returns-in_default-try_from
returns-in_default-try_from c = (
  c.in-Some.after.now,
  line_read _ _ _ c.in-Some.sample c.in-Some.count _ _ c.in-Some.ensures
      (elim c.in_default-try_from.branch [
        | in_default-try_from-via-in-Ok+then-try_from-lt1 w ↦ grind (arith, nat_tests)
        | in_default-try_from-via-in_default w ↦ grind (arith, nat_tests)
      ]),
)

pub returns-in_default-try_from-2 : goal.returns-in_default-try_from-2
returns-in_default-try_from-2 c = (
  c.in-Some.after.now,
  line_read _ _ _ c.in-Some.sample c.in-Some.count _ _ c.in-Some.ensures (grind (arith, nat_tests)),
)

pub returns : goal.returns
returns c = line_read _ _ _ c.in-Some.sample c.in-Some.count _ _ c.in-Some.ensures (grind (arith, nat_tests))
