-- The degrees before place i are within their limits.
use Rattle.sameness.proofs.Lookups.{covering_fails, covering_next, covering_end}
use Rattle.sameness.proofs.checked.Checked.lies_within.Goals as goal

pub returns-then-partner_of-self : goal.returns-then-partner_of-self
returns-then-partner_of-self c =
    covering_fails c.loop-i.invariant c.args.self.now.boxed.each c.loop-i-test.true c.partner_of.ensures.limits c.if-partner_of-self.true

pub loop-i-preserved : goal.loop-i-preserved
loop-i-preserved c =
    covering_next c.loop-i.invariant c.args.self.now.boxed.each c.loop-i-test.true c.partner_of.ensures.limits c.if-partner_of-self.false

pub returns : goal.returns
returns c = covering_end c.loop-i.invariant c.args.self.now.boxed.each c.loop-i-test.false
