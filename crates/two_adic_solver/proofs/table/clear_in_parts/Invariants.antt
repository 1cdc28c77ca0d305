-- The loop: the parts behind `end` are done, whatever state the tables showed; at first that is none, and the pivot row is 0 behind its last entry that is not.
use Rattle.std.proofs.Common.{◌≡◌, ◌-◌, length}
use Rattle.two_adic_solver.proofs.PartLaws.{Parted}
use Rattle.two_adic_solver.proofs.table.clear_in_parts.Given as goal

abbrev pub invariant-loop-end : goal.invariant-loop-end
invariant-loop-end l =
    Parted l.fn.width.bits l.columns l.column l.row l.used l.initial.entries l.initial.right l.entries l.right l.side l.end
    × (length l.room ≡ length l.initial.room)

abbrev pub decreases-loop-end : goal.decreases-loop-end
decreases-loop-end l = l.end - l.column
