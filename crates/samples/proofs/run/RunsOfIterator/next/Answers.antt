use Rattle.std.proofs.Common.{rules, ◌≡◌, ◌∷◌, eqb, length, get_or, ap, ◌∙◌, sym, arith}
use borrow.Author.Tests.{tests}
use Rattle.std.proofs.lemmas.List.{take_rest}
use Rattle.std.proofs.lemmas.List.Folds.{length-prefix_len}
use Rattle.std.proofs.lemmas.Iterator.{YieldsList-from_slice}
use Rattle.std.proofs.lemmas.Iterator.Search.{YieldsList-from_take_while}
use Rattle.std.proofs.lemmas.Iterator.Consumers.{count_from_yields_List, YieldsList-at}
use Rattle.samples.specs.Runs.{run, rolled}
use Rattle.samples.proofs.Steps.{alike, first_taken}
use Rattle.samples.proofs.run.RunsOfIterator.next.Goals as goal

pub returns : goal.returns
returns c =
    let xs = c.args.self.now.rest.now in
    let most = c.in_ok-most.most.now in
    let x = get_or most 0 0 in
    let n = c.count-count.result in
    let chunk = c.in_ok-most.ensures.steps in
    let counted : n ≡ alike x most =
    count_from_yields_List _ _ c.count-count.ensures.ran
    (YieldsList-from_take_while _ (λ y. eqb y x) (YieldsList-at c.take_while.ensures.source (YieldsList-from_slice most cc)) c.take_while.ensures.closure
    c.take_while.ensures.done (λ z b q k. search (rules, tests)))
    ∙ length-prefix_len (λ y. eqb y x) most in
    let first =
    first_taken xs most _ n (sym c.chunks.ensures.rest ∙ chunk.1.0) (omega (arith, chunk.1.1, c.chunks.ensures.size, ap length c.chunks.ensures.rest))
    (omega (arith, chunk.1.2, ap length c.chunks.ensures.rest)) counted
    ∙ ap (λ ys. run x n ∷ rolled ys) (sym (take_rest xs n)) in
    record {
      steps = first;
      goes = record { on = λ _. (tt, tt, omega (arith, ap length first)); keeps = tt; rests = λ _. tt };
    }
