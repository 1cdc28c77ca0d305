-- The loop: the numbers before the index are 0, the others as they were; at the end the table is that of the rule 0 (`filled_done`).
use Rattle.std.proofs.Common.{arith}
use Rattle.theory.specs.Tables.{filled_done}
use Rattle.tables.proofs.clear.Goals as goal

pub returns : goal.returns
returns c = filled_done _ _ c.loop-entry.table c.loop-entry.entry-index c.loop-entry.invariant (omega (arith, c.loop-entry.invariant.same))
