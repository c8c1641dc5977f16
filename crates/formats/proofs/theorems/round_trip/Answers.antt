use Rattle.formats.proofs.Back.{round_trip}
use Rattle.formats.proofs.theorems.round_trip.Goals as goal

pub returns : goal.returns
returns c = round_trip
