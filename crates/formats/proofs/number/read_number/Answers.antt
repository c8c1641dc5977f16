use Rattle.std.proofs.Common.{[], refl, rules}
use Rattle.formats.proofs.Numbers.{digit_more}
use Rattle.formats.proofs.number.read_number.Goals as goal

pub loop-rest-init : goal.loop-rest-init
loop-rest-init c = digit_more c.args.text.now [] c.args.text.now 0 _ refl tt refl (search rules) (search rules) (search rules)

pub loop-rest-preserved-then-number-le-EXACT : goal.loop-rest-preserved-then-number-le-EXACT
loop-rest-preserved-then-number-le-EXACT c =
    let front = c.loop-rest.invariant in
    digit_more _ front.digits c.loop-rest.rest.now c.loop-rest.number _ front.cut front.all front.same (search rules) (search rules) (search rules)

pub loop-rest-preserved : goal.loop-rest-preserved
loop-rest-preserved c =
    let front = c.loop-rest.invariant in
    digit_more _ front.digits c.loop-rest.rest.now c.loop-rest.number _ front.cut front.all front.same (search rules) (search rules) (search rules)
