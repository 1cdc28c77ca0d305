-- The loop: from `column` up to k the target row is less q times the source row, and all other entries are as they were.
use Rattle.two_adic_solver.proofs.FixedLaws.{less-step}
use Rattle.two_adic_solver.proofs.square.subtract_row.Goals as goal

pub loop-k-preserved : goal.loop-k-preserved
loop-k-preserved c =
    less-step _ _ _ _ _ _ c.loop-k.matrix c.loop-k.k c.loop-k.invariant c.requires.1 c.requires.2 c.loop-k-test.true _
    c.less.ensures
