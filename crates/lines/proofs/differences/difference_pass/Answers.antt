-- The loop comes down: from place i on the numbers are one pass further, below it they are as they were.
use Rattle.lines.proofs.Passes.{passing_step, passing_done}
use Rattle.lines.proofs.differences.difference_pass.Goals as goal

pub loop-i-preserved : goal.loop-i-preserved
loop-i-preserved c = passing_step _ _ _ c.loop-i.part c.loop-i.i _ c.loop-i.invariant c.requires.0 c.loop-i-test.true c.wrapping_sub.ensures

pub returns : goal.returns
returns c = passing_done _ _ _ c.loop-i.part c.loop-i.i c.loop-i.invariant c.requires.0 c.loop-i-test.false
