use Rattle.lines.specs.RowLoops.{rows_done}
use Rattle.lines.proofs.fours.rows_by_one.Goals as goal

pub returns : goal.returns
returns g c = rows_done _ c.args.stride _ c.requires c.loop-i.part c.loop-i.i c.loop-i.invariant c.loop-i-test.false
