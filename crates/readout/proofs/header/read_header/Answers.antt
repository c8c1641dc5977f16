use Rattle.std.proofs.Common.{◌≡◌, ◌++◌, Some, codes}
use Rattle.std.proofs.lemmas.Slice.Eq.{strip_prefix_is}
use Rattle.readout.proofs.Headers.{no_header}
use Rattle.readout.proofs.header.read_header.Goals as goal
use Rattle.readout.proofs.header.read_header.Goals.{In_ok-rest}
use Rattle.std.proofs.lemmas.Bool.Decides.{Decides-eqb}

begins : (c : In_ok-rest) → c.args.text.now ≡ codes "serial line " ++ c.in_ok-rest.rest.now
begins c = strip_prefix_is Decides-eqb c.args.text.now (codes "serial line ") (Some c.in_ok-rest.rest) c.in_ok-rest.ensures.cases

pub returns-in_err-line : goal.returns-in_err-line
returns-in_err-line c =
    rw c.from_residual-in_err-line.ensures
    (no_header c.args.text.now c.in_ok-rest.rest.now (begins (goal.at.returns-in_err-line c).In_ok-rest) c.in_err-line.ensures)

pub returns : goal.returns
returns c = record { rest = c.in_ok-rest.rest.now; begins = begins (goal.at.returns c).In_ok-rest; numbers = c.in_ok-line.ensures }
