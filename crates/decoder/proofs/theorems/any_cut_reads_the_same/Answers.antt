use Rattle.decoder.proofs.Calls.{restored_after, cut_is_read}
use Rattle.decoder.proofs.Cut.{machine_is_cut}
use Rattle.decoder.proofs.theorems.any_cut_reads_the_same.Goals as goal

pub returns : goal.returns
returns g c =
    let m = g.D.Machine in
    let d = g.D.Decoder in
    let l = g.met.D.Decoder in
    record {
      machine = machine_is_cut m.step m.emit;
      calls = λ settings.
          cut_is_read m.step m.emit d.encoded d.WIDTH d.saved d.restored l.sized (m.state settings)
          (restored_after m.state m.step d.size d.saved d.restored g.met.D.Machine.goes_on l.opens l.back l.same settings);
    }
