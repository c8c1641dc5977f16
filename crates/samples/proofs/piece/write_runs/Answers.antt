use Rattle.std.proofs.Common.{◌∷◌, [], length, map, ap, ◌∙◌, sym, ℕ, ◌*◌, ◌<◌, arith}
use Rattle.std.proofs.lemmas.List.{map-append, length-map}
use Rattle.std.proofs.lemmas.List.Concat.{flat_map-append}
use Rattle.std.proofs.lemmas.List.FromFn.{get_or-enumerate_from, length-enumerate_from}
use Rattle.std.proofs.lemmas.Iterator.Consumers.{YieldsList-from_first, YieldsList-from_enumerate, YieldsList-turn}
use Rattle.samples.specs.declared.run.Run.{Run}
use Rattle.samples.specs.Roll.{numbers, filled}
use Rattle.samples.specs.Runs.{rolled}
use Rattle.samples.proofs.Room.{length-numbers, lent_on}
use Rattle.samples.proofs.Taken.{left}
use Rattle.samples.proofs.piece.write_runs.Goals as goal

pub loop-place-preserved : goal.loop-place-preserved
loop-place-preserved c =
    let rs = rolled c.args.samples.now in
    let ys = c.loop-place.yielded in
    let r = c.in-Some.run' in
    let so_far = map (λ (p : ℕ × Run). p.1) ys in
    let turn =
    YieldsList-turn (YieldsList-from_enumerate (YieldsList-from_first (λ x. x) left rs cc) cc) ys _ c.loop-place.yielded_by c.next.result c.next.new.self
    (c.in-Some.place, r) c.in-Some.is c.next.ensures.steps in
    let within : length ys < length rs = omega (arith, turn.0, length-enumerate_from 0 rs) in
    let place = ap (λ (p : ℕ × Run). p.0) (turn.1 ∙ get_or-enumerate_from 0 rs (length ys) (c.in-Some.place, r) within) in
    let long = length-map ys (λ (p : ℕ × Run). p.1) in
    lent_on c.args.room.now c.loop-place.room _ (numbers so_far) (numbers (r ∷ [])) (2 * c.in-Some.place) (omega (arith, place, long, length-numbers so_far)) (omega (arith, place, within, c.requires))
    c.loop-place.invariant c.write_run.ensures
    ∙ ap (λ ns. filled ns c.args.room.now) (sym (flat_map-append (λ q. q.sample ∷ (q.count ∷ [])) so_far (r ∷ [])))
    ∙ ap (λ qs. filled (numbers qs) c.args.room.now) (sym (map-append (λ (p : ℕ × Run). p.1) ys ((c.in-Some.place, r) ∷ [])))
