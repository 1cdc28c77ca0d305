-- Lines that the transform leaves are left. The loop: the blocks before `from` are transformed, the others as they were.
-- The block size divides the length, so that nothing is left where no further block fits.
use Rattle.std.proofs.Common.{◌-◌, ◌^◌, length}
use Rattle.lines.specs.FlatLoops.{Blocks}
use Rattle.lines.proofs.transform_variable.Given as goal

abbrev pub invariant-loop-table : goal.invariant-loop-table
invariant-loop-table g l = Blocks (g.T.FourTransform.line l.transform (2 ^ 64)) l.stride l.degree l.initial.table l.table l.from

abbrev pub decreases-loop-table : goal.decreases-loop-table
decreases-loop-table g l = length l.initial.table - l.from
