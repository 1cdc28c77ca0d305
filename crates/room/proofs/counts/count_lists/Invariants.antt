-- The last variable is counted first. Then the loop keeps: the counts are those of the variables from i on. Each turn takes the variable before them.
use Rattle.std.proofs.Common.{◌≡◌, length}
use Rattle.room.proofs.RunningSums.{list_counts}
use Rattle.room.proofs.counts.count_lists.Given as goal

abbrev pub invariant-loop-i : goal.invariant-loop-i
invariant-loop-i l = (l.counts ≡ list_counts l.degrees (length l.initial.next) l.i) × (length l.next ≡ length l.initial.next)
