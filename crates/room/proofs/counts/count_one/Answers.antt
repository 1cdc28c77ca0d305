-- The loop: the places before s have their counts, the others are as they were.
use Rattle.std.proofs.Common.{arith}
use Rattle.theory.specs.Tables.{filled_done}
use Rattle.room.proofs.counts.count_one.Goals as goal

pub returns : goal.returns
returns c = filled_done _ _ c.loop-s.counts c.loop-s.s c.loop-s.invariant (omega (arith, c.loop-s.invariant.same))
