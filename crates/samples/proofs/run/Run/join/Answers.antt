use Rattle.std.proofs.Common.{arith}
use Rattle.samples.proofs.Steps.{join_other, join_within, join_past}
use Rattle.samples.proofs.run.Run.join.Goals as goal

pub returns-then-next-self : goal.returns-then-next-self
returns-then-next-self c = join_other c.args.self c.args.next c.requires (omega arith) c.if-next-self.true

pub returns-then-next-free : goal.returns-then-next-free
returns-then-next-free c = join_within c.args.self c.args.next (omega arith) c.if-next-self.false

pub returns : goal.returns
returns c = join_past c.args.self c.args.next (omega arith) (omega arith) (omega arith) c.if-next-self.false
