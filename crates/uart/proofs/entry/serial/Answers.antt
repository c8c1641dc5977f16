use Rattle.std.proofs.Common.{ap, ◌∙◌}
use Rattle.decoder.specs.Reading.{After}
use Rattle.uart.proofs.Streams.{shares, passed_on}
use Rattle.uart.proofs.entry.serial.Goals as goal

pub returns : goal.returns
returns c =
    let made = c.in_ok-reader.ensures in
    let called = c.read_on.ensures in
    let all = passed_on c.args.bit c.args.line c.in_ok-reader.reader.state c.args.samples.now c.args.memory.now c.args.room.now made.0 made.1 in
    let a = called.answer ∙ ap (λ (x : After). x.answer) all in
    let m = called.memory ∙ ap (λ (x : After). x.memory) all in
    let r = called.room ∙ ap (λ (x : After). x.room) all in
    record {
      answer = a;
      memory = m;
      room = r;
      share = shares c.args.bit c.args.line c.args.samples.now c.args.memory.now c.args.room.now _ _ _ a m r;
    }
