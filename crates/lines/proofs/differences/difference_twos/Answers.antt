-- The loop: the pairs before place i are done; the measure is what is left.
use Rattle.std.proofs.Common.{arith, length-set}
use Rattle.lines.specs.Neighbours.{newton_line, neighbours_done, twos-step}
use Rattle.lines.proofs.differences.difference_twos.Goals as goal

pub loop-i-preserved : goal.loop-i-preserved
loop-i-preserved c = (simp length-set (omega arith), twos-step _ c.loop-i.table c.loop-i.i c.loop-i.invariant.1 _ c.loop-i-test.true c.wrapping_sub.ensures)

pub returns : goal.returns
returns c = neighbours_done newton_line 1 _ c.loop-i.table c.loop-i.i c.loop-i.invariant.1 c.loop-i.invariant.0 c.requires (omega arith)
