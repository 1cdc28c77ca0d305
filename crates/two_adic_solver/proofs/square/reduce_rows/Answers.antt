-- The loop: the first rows are reduced, the others as they were; `reduced_done` says it of the rows one behind the other.
use Rattle.two_adic_solver.proofs.FixedLaws.{reduced_step, reduced_done}
use Rattle.two_adic_solver.proofs.square.reduce_rows.Goals as goal

pub loop-row-preserved : goal.loop-row-preserved
loop-row-preserved c = reduced_step _ _ c.requires c.loop-row.matrix c.loop-row.row-index _ c.loop-row.invariant c.loop-row-test.true c.reduce.ensures

pub returns : goal.returns
returns c = (c.loop-row.invariant.square, reduced_done _ _ c.requires _ _ c.loop-row.invariant c.loop-row-test.false)
