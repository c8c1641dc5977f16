use Rattle.samples.proofs.Rolled.{rolled-gives}
use Rattle.readout.proofs.Texts.{decodes}
use Rattle.readout.proofs.decode.decode_serial.Goals as goal

pub returns : goal.returns
returns c =
    let ss = c.in_ok-runs.runs.samples in
    let made = rw (c.from.ensures, c.from-2.ensures) at c.in_ok-reader.ensures in
    let listed = rw (c.as_slice.ensures.value, rolled-gives ss) at c.in_ok-list.ensures in
    decodes c.args.line c.args.bit c.args.lines.now c.in_ok-reader.reader.state ss _ made.0 made.1 c.in_ok-runs.ensures listed
