-- The first two returns are never taken: no table is that long. The loop: the lines with offsets below i are done.
use Rattle.std.proofs.Common.{◌^◌}
use Rattle.lines.specs.RowLoops.{Rows}
use Rattle.lines.proofs.fours.rows_by_one.Given as goal

abbrev pub invariant-loop-i : goal.invariant-loop-i
invariant-loop-i g l = Rows (g.T.FourTransform.line l.transform (2 ^ 64)) l.stride l.initial.part l.part l.i
