-- The loop: the numbers before i are those of `from`, moved, the others as they were.
use Rattle.std.proofs.Common.{arith}
use Rattle.theory.specs.Tables.{filled_done}
use Rattle.multivar_poly_recovery.proofs.shifts.raise.Goals as goal

pub returns : goal.returns
returns c = filled_done _ _ c.loop-i.to c.loop-i.i c.loop-i.invariant (omega (arith, c.loop-i-test.false, c.loop-i.invariant.same))
