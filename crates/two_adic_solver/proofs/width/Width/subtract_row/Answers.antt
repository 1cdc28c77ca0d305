-- The loop: the numbers before k are less q times the pivot row's, the others as they were.
use Rattle.std.proofs.Common.{arith}
use Rattle.theory.specs.Tables.{filled_done}
use Rattle.two_adic_solver.proofs.width.Width.subtract_row.Goals as goal

pub returns : goal.returns
returns c = filled_done _ _ c.loop-k.row c.loop-k.k c.loop-k.invariant (omega (arith, c.loop-k.invariant.same, c.loop-k-test.false))
