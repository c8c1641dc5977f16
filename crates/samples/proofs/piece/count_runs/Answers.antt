use Rattle.std.proofs.Common.{rules, ◌≡◌, ◌∙◌, drop, arith}
use Rattle.std.proofs.lemmas.List.{take_rest}
use borrow.Author.Tests.{tests}
use Rattle.std.specs.List.{sum_by, zip}
use Rattle.std.proofs.lemmas.Iterator.{YieldsList-from_slice, YieldsList-from_map, YieldsList-from_zip}
use Rattle.std.proofs.lemmas.Iterator.Consumers.{sum_by_from_yields_List, YieldsList-at}
use Rattle.samples.proofs.Changes.{change, changes_fewer, counted}
use Rattle.samples.proofs.piece.count_runs.Goals as goal

pub returns : goal.returns
returns c =
    let ss = c.args.samples.now in
    let later = drop 1 ss in
    let total : c.sum-changes.result ≡ sum_by change (zip ss later) =
    sum_by_from_yields_List change (zip ss later) c.map.result c.sum-changes.result c.sum-changes.ensures.ran
    (YieldsList-from_map _ change
    (YieldsList-at c.map.ensures.source (YieldsList-from_zip (YieldsList-from_slice ss cc) (YieldsList-from_slice later (c.zip.ensures.second.0 ∙ take_rest ss 1))))
    c.map.ensures.closure (λ x r q k. search (rules, tests))) in
    record {
      value = omega (arith, total, c.from.ensures, counted ss c.in-len1-up.len_at_least c.requires);
      bound = omega (arith, total, c.from.ensures, changes_fewer ss c.in-len1-up.len_at_least, c.requires);
    }
