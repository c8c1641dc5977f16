use Rattle.std.proofs.Common.{◌≤◌, ◌+◌, ◌-◌, ◌*◌, ◌++◌, drop, replicate, string_bytes}
use Rattle.samples.specs.Runs.{samples_of}
use Rattle.readout.specs.Listing.{shown}
use Rattle.readout.proofs.Lines.{Lists}
use Rattle.readout.proofs.listing.list.Given as goal

abbrev pub invariant-loop-i : goal.invariant-loop-i
invariant-loop-i g l =
    let m = g.D.Machine in
    Lists m.step m.emit (shown g.D.Output.Display.output) (m.state l.fn.reader) (samples_of l.runs) (m.state l.reader) (l.place + l.i)
    (replicate (l.count - l.i) l.sample ++ samples_of (drop (l.run-index + 1) l.runs)) (string_bytes l.out)

abbrev pub invariant-loop-run : goal.invariant-loop-run
invariant-loop-run g l =
    let m = g.D.Machine in
    record {
      near : l.place ≤ 65535 * l.run-index;
      lists : Lists m.step m.emit (shown g.D.Output.Display.output) (m.state l.fn.reader) (samples_of l.runs) (m.state l.reader) l.place (samples_of (drop l.run-index l.runs)) (string_bytes l.out);
    }
