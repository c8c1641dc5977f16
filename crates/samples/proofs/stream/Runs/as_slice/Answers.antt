use Rattle.std.proofs.Common.{sym, ap, ◌∙◌, subst}
use Rattle.samples.specs.Runs.{samples_of, rolled, Minimal}
use Rattle.samples.proofs.Fewest.{packed_minimal}
use Rattle.samples.proofs.stream.Runs.as_slice.Goals as goal

pub returns : goal.returns
returns c =
    let value = c.as_slice.ensures.value in
    record {
      value = value ∙ sym c.self.inside.packed ∙ ap (λ k. rolled k.samples) c.self.view_is;
      minimal = subst (λ rs. Minimal (samples_of rs) rs) (sym value) (packed_minimal c.self.inside.list.items c.self.inside.packed);
    }
