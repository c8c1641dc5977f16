-- What holds where memory was wanting. Assumes nothing.
use Rattle.std.proofs.Common.{◌≡◌, ℕ, ◌<◌, true, List, ◌++◌, length, is_err, Ok, Err, Result}
use Rattle.std.proofs.lemmas.Bool.{false≢true}
use Rattle.samples.specs.Runs.{rolled}
use Rattle.samples.specs.Stream.{Kept, Extends}

pub not_extended :
    {E : Type 0} (r : Result (Unit {0}) E) (before after : Kept) (piece : List ℕ) → is_err r ≡ true → after.samples ≡ before.samples →
    before.capacity < length (rolled (before.samples ++ piece)) → Extends r before piece after
not_extended (Ok u) before after piece err same wants = absurd (false≢true err)
not_extended (Err e) before after piece err same wants = (same, wants)
