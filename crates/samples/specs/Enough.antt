-- That a list of runs has capacity for them. Assumes nothing.
use Rattle.std.specs.Prelude.{◌≡◌, ◌≤◌, length, vec_items, vec_capacity, Vec}
use Rattle.std.proofs.Common.{arith, ap}
use Rattle.std.specs.declared.alloc.Global.{Global}
use Rattle.samples.specs.declared.run.Run.{Run}
use Rattle.samples.specs.Runs.{samples_of, rolled}

-- where the list holds the runs of its samples
pub enough : (list : Vec Run Global) → rolled (samples_of (vec_items list)) ≡ vec_items list → length (rolled (samples_of (vec_items list))) ≤ vec_capacity list
enough list packed = omega (arith, ap length packed, list.ok.0, list.ok.1)
