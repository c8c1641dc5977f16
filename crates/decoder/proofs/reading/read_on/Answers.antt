use Rattle.std.proofs.Common.{Ok, sym, ap, ◌∙◌}
use Rattle.std.proofs.lemmas.Bool.{leb-true}
use Rattle.decoder.specs.Reading.{After}
use Rattle.decoder.proofs.Calls.{reads}
use Rattle.decoder.proofs.reading.read_on.Goals as goal

pub save-requires : goal.save-requires
save-requires g c = (g.met.D.Decoder.opens _ _ _ c.in_ok-reader.ensures).1

pub returns : goal.returns
returns g c =
    let m = g.D.Machine in
    let d = g.D.Decoder in
    let w = c.walk-reader.ensures in
    let fits = sym c.if-not-has_room.ensures in
    let all =
    reads m.step m.emit d.encoded d.saved c.args.samples.now c.args.memory.now c.args.room.now (d.restored (m.state c.args.settings) c.args.memory.now) (m.state c.in_ok-reader.reader) c.in_ok-reader.ensures
    c.in_ok-check_piece.ensures fits in
    record {
      answer = ap Ok w.many ∙ sym (ap (λ (a : After). a.answer) all);
      memory = c.save.ensures ∙ ap d.saved w.state ∙ sym (ap (λ (a : After). a.memory) all);
      room = w.written (leb-true _ _ fits) ∙ sym (ap (λ (a : After). a.room) all);
    }
