-- The loop: the pairs before place i are done; the measure is what is left.
use Rattle.std.proofs.Common.{◌-◌, ◌≤◌, length}
use Rattle.lines.specs.Neighbours.{Neighbours, newton_line}
use Rattle.lines.proofs.differences.difference_twos.Given as goal

abbrev pub invariant-loop-i : goal.invariant-loop-i
invariant-loop-i l = (l.i ≤ length l.table) × Neighbours newton_line 1 l.initial.table l.table l.i

abbrev pub decreases-loop-i : goal.decreases-loop-i
decreases-loop-i l = length l.table - l.i
