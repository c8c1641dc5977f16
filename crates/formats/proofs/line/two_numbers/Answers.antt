use Rattle.std.proofs.Common.{◌++◌, Some, None, subst}
use Rattle.std.proofs.lemmas.Bool.Decides.{Decides-eqb}
use Rattle.std.proofs.lemmas.Slice.Eq.{strip_prefix_is}
use Rattle.formats.proofs.Lines.{Read, no_first, no_between, no_second, no_end}
use Rattle.formats.proofs.line.two_numbers.Goals as goal
use Rattle.formats.proofs.line.two_numbers.Goals.{In_ok-strip_prefix}

-- `between` follows the first number
parted : (c : In_ok-strip_prefix) → Read c.args.text.now c.in_ok-first.first (c.args.between.now ++ c.in_ok-strip_prefix.field-0.now)
parted c =
    subst (Read c.args.text.now c.in_ok-first.first)
    (strip_prefix_is Decides-eqb c.in_ok-first.rest.now c.args.between.now (Some c.in_ok-strip_prefix.field-0) c.in_ok-strip_prefix.ensures.cases)
    c.in_ok-first.ensures

pub returns-in_err-first : goal.returns-in_err-first
returns-in_err-first c = rw c.from_residual.ensures (no_first c.in_err-first.ensures)

pub returns-in_err-strip_prefix : goal.returns-in_err-strip_prefix
returns-in_err-strip_prefix c =
    rw c.from_residual-in_err-strip_prefix.ensures
    (no_between c.in_ok-first.rest.now c.in_ok-first.first c.in_ok-first.ensures
    (strip_prefix_is Decides-eqb c.in_ok-first.rest.now c.args.between.now None c.in_err-strip_prefix.ensures.cases))

pub returns-in_err-second : goal.returns-in_err-second
returns-in_err-second c =
    rw c.from_residual-in_err-second.ensures (no_second _ (parted (goal.at.returns-in_err-second c).In_ok-strip_prefix) c.in_err-second.ensures)

pub returns-in_err-end_line : goal.returns-in_err-end_line
returns-in_err-end_line c =
    rw c.from_residual-in_err-end_line.ensures
    (no_end _ (parted (goal.at.returns-in_err-end_line c).In_ok-strip_prefix) c.in_ok-second.rest.now c.in_ok-second.second c.in_ok-second.ensures
    c.in_err-end_line.ensures)

pub returns : goal.returns
returns c =
    let first = parted (goal.at.returns c).In_ok-strip_prefix in
    record {
      rest = c.in_ok-strip_prefix.field-0.now;
      end = c.in_ok-second.rest.now;
      first = first.0;
      parted = first.1;
      second = c.in_ok-second.ensures.0;
      ends = c.in_ok-end_line.ensures;
    }
