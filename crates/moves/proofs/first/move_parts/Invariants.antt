-- The loop: the lines before `from` are moved, the others as they were, and some are left; the measure is the places left.
use Rattle.std.proofs.Common.{◌-◌, ◌^◌, ◌<◌, length}
use Rattle.theory.specs.MovedLines.{moved_line}
use Rattle.lines.specs.Neighbours.{Neighbours}
use Rattle.moves.proofs.first.move_parts.Given as goal

abbrev pub invariant-loop-table : goal.invariant-loop-table
invariant-loop-table l = (l.from < length l.table) × Neighbours (moved_line (2 ^ 64) l.lines.offset) l.lines.degree l.initial.table l.table l.from

abbrev pub decreases-loop-table : goal.decreases-loop-table
decreases-loop-table l = length l.initial.table - l.from
