use Rattle.decoder.proofs.Written.{Walked}
use Rattle.decoder.proofs.reading.walk.Given as goal

abbrev pub invariant-loop-sample : goal.invariant-loop-sample
invariant-loop-sample g l =
    let m = g.D.Machine in
    let d = g.D.Decoder in
    Walked m.step m.emit d.encoded d.WIDTH (m.state l.initial.reader) l.samples l.initial.room (m.state l.reader) l.sample-index l.many l.room
