use Rattle.std.proofs.Common.{◌*◌, length, sym, ◌∙◌, arith}
use Rattle.std.proofs.lemmas.Bool.{le-leb, leb-true}
use Rattle.decoder.proofs.Cut.{length-numbers, numbers-few}
use Rattle.decoder.proofs.reading.has_room.Goals as goal

-- at most one output at each sample, so that as many as there are samples is ample
pub returns-then-fits : goal.returns-then-fits
returns-then-fits g c =
    let m = g.D.Machine in
    let d = g.D.Decoder in
    let xs = c.args.samples.now in
    let few = numbers-few m.step m.emit d.encoded d.WIDTH g.met.D.Decoder.sized (m.state c.args.reader) xs in
    let ample = rw c.WIDTH.ensures at (leb-true (length xs * c.WIDTH.result) c.args.room (sym c.if-fits.ensures)) in
    sym (le-leb _ _ (omega (arith, few, ample)))

pub returns : goal.returns
returns g c =
    let m = g.D.Machine in
    let d = g.D.Decoder in
    let long = length-numbers m.step m.emit d.encoded d.WIDTH g.met.D.Decoder.sized (m.state c.args.reader) c.args.samples.now in
    c.fits-2.ensures ∙ rw (c.WIDTH-2.ensures, c.walk-many.ensures.many, long)
