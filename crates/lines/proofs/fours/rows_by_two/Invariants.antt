-- The loop: the lines with offsets below i are done; the measure is what is left. One line may be left behind it.
use Rattle.std.proofs.Common.{◌-◌, ◌^◌, ◌≤◌}
use Rattle.lines.specs.RowLoops.{Rows}
use Rattle.lines.proofs.fours.rows_by_two.Given as goal

abbrev pub invariant-loop-i : goal.invariant-loop-i
invariant-loop-i g l = (l.i ≤ l.stride) × Rows (g.T.FourTransform.line l.transform (2 ^ 64)) l.stride l.initial.part l.part l.i

abbrev pub decreases-loop-i : goal.decreases-loop-i
decreases-loop-i g l = l.stride - l.i
