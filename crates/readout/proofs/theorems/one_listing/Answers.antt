use Rattle.readout.proofs.Texts.{one_listing}
use Rattle.readout.proofs.theorems.one_listing.Goals as goal

pub returns : goal.returns
returns c = one_listing
