-- The variable does not stand before place i, whose stride is at hand.
use Rattle.std.proofs.Common.{arith}
use Rattle.sameness.proofs.Lookups.{seeking_found, seeking_next, seeking_low, seeking_end}
use Rattle.sameness.proofs.checked.Checked.partner_of.Goals as goal

pub returns-then-w-v-clause-limits : goal.returns-then-w-v-clause-limits
returns-then-w-v-clause-limits c = (seeking_found c.loop-i.invariant c.loop-i-test.true c.args.self.now.boxed.each c.if-w-v.true).0

pub returns-then-w-v-clause-steps : goal.returns-then-w-v-clause-steps
returns-then-w-v-clause-steps c = (seeking_found c.loop-i.invariant c.loop-i-test.true c.args.self.now.boxed.each c.if-w-v.true).1

pub invariant_of-result : goal.invariant_of-result
invariant_of-result c =
    let form = c.args.self.now.boxed in
    record { short = omega (arith, seeking_low c.loop-i.invariant c.loop-i-test.true form.each, form.size) }

pub overflow_mul-stride : goal.overflow_mul-stride
overflow_mul-stride c = let form = c.args.self.now.boxed in omega (arith, seeking_low c.loop-i.invariant c.loop-i-test.true form.each, form.size)

pub loop-i-preserved : goal.loop-i-preserved
loop-i-preserved c = seeking_next c.loop-i.invariant c.loop-i-test.true c.args.self.now.boxed.each c.if-w-v.false

pub returns-clause-limits : goal.returns-clause-limits
returns-clause-limits c = (seeking_end c.loop-i.invariant c.loop-i-test.false).0

pub returns-clause-steps : goal.returns-clause-steps
returns-clause-steps c = (seeking_end c.loop-i.invariant c.loop-i-test.false).1
