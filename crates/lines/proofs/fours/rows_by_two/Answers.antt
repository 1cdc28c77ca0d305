use Rattle.std.proofs.Common.{◌+◌, arith}
use Rattle.lines.specs.RowLoops.{rows_done}
use Rattle.lines.proofs.fours.rows_by_two.Goals as goal

pub returns-then-i-stride : goal.returns-then-i-stride
returns-then-i-stride g c =
    rows_done _ c.args.stride _ c.requires _ (c.loop-i.i + 1) (c.four_row-then-i-stride.ensures _ c.loop-i.invariant.1)
    (omega (arith, c.loop-i-test.false))

pub returns-else-i-stride : goal.returns-else-i-stride
returns-else-i-stride g c =
    rows_done _ c.args.stride _ c.requires c.loop-i.part c.loop-i.i c.loop-i.invariant.1 c.if-i-stride.false
