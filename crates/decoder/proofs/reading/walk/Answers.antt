use Rattle.std.proofs.Common.{◌*◌, ap}
use Rattle.decoder.proofs.Written.{walked_all, walked_quiet, walked_written, walked_past}
use Rattle.decoder.proofs.reading.walk.Goals as goal
use Rattle.decoder.proofs.reading.walk.Goals.{in-Some, in_default, then-fits, else-fits}

pub loop-sample-preserved : goal.loop-sample-preserved
loop-sample-preserved g c =
    let m = g.D.Machine in
    let d = g.D.Decoder in
    let sized = g.met.D.Decoder.sized in
    let start = m.state c.args.start in
    let xs = c.args.samples.now in
    let lent = c.args.room.now in
    let l = c.loop-sample in
    let s = m.state l.reader in
    let t = m.state c.feed-next.result.0 in
    let o = c.feed-next.result.1 in
    let e = c.feed-next.ensures in
    elim c.match-output.branch [
      | in-Some w ↦
          elim w.if-fits.branch [
            | then-fits v ↦
                let at = ap (λ n. l.many * n) v.WIDTH-then-fits.ensures in
                rw (w.many-is, w.room-is, v.room-is)
                (walked_written m.step m.emit d.encoded d.WIDTH start xs lent s t l.sample-index l.many l.room o c.loop-sample-test.true e.next e.output l.invariant sized w.in-Some.output w.in-Some.is _ _ at v.encode.ensures)
            | else-fits v ↦
                rw (w.many-is, w.room-is, v.room-is)
                (walked_past m.step m.emit d.encoded d.WIDTH start xs lent s t l.sample-index l.many l.room o c.loop-sample-test.true e.next e.output l.invariant sized w.in-Some.output w.in-Some.is l.auto.room w.WIDTH.result w.WIDTH.ensures w.fits.result w.fits.ensures v.if-fits.false)
          ]
      | in_default w ↦
          rw (w.many-is, w.room-is)
          (walked_quiet m.step m.emit d.encoded d.WIDTH start xs lent s t l.sample-index l.many l.room o c.loop-sample-test.true e.next e.output l.invariant w.in_default.is)
    ]

pub returns : goal.returns
returns g c =
    let m = g.D.Machine in
    let d = g.D.Decoder in
    let l = c.loop-sample in
    let w = walked_all m.step m.emit d.encoded d.WIDTH (m.state c.args.start) c.args.samples.now c.args.room.now (m.state l.reader) l.sample-index l.many l.room c.loop-sample-test.false l.invariant in
    record { state = w.0; many = w.1; written = w.2 }
