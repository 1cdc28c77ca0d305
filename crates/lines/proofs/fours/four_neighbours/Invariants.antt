-- The loop: the fours before place i are done; the measure is what is left.
use Rattle.std.proofs.Common.{◌-◌, ◌^◌, ◌≤◌, length}
use Rattle.lines.specs.Neighbours.{Neighbours}
use Rattle.lines.proofs.fours.four_neighbours.Given as goal

abbrev pub invariant-loop-i : goal.invariant-loop-i
invariant-loop-i g l = (l.i ≤ length l.table) × Neighbours (g.T.FourTransform.line l.transform (2 ^ 64)) 3 l.initial.table l.table l.i

abbrev pub decreases-loop-i : goal.decreases-loop-i
decreases-loop-i g l = length l.table - l.i
