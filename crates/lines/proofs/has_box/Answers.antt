-- The loop: `size` is the number of cells of the variables before variable i, and below 2^60. A product that overflows is more than any table's length.
use Rattle.std.proofs.Common.{eqb, sym, ap, arith}
use Rattle.lines.proofs.BoxSizes.{counted_step, counted_done, too_many}
use Rattle.lines.proofs.has_box.Goals as goal

pub returns-in_default : goal.returns-in_default
returns-in_default c =
    too_many _ _ _ c.loop-degree.invariant c.loop-degree-test.true _ (omega (arith, c.in_default.ensures))

pub returns-then-table-next : goal.returns-then-table-next
returns-then-table-next c = too_many _ _ _ c.loop-degree.invariant c.loop-degree-test.true _ (omega (arith, c.in-Some.ensures, c.if-table-next.true))

pub loop-degree-preserved : goal.loop-degree-preserved
loop-degree-preserved c =
    rw (c.in-Some.ensures.1) (counted_step _ _ _ c.loop-degree.invariant c.loop-degree-test.true (omega (arith, c.in-Some.ensures, c.if-table-next.false)))

pub returns : goal.returns
returns c = ap (eqb _) (sym (counted_done _ _ _ c.loop-degree.invariant c.loop-degree-test.false))
