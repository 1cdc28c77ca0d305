-- The loop: the row is filled before column j, `factor` is the factor of column j, and `left` stands left of the entry above. A turn is two steps, the end
-- one or none.
use Rattle.std.proofs.Common.{◌≡◌, ◌+◌, ◌-◌, ◌<◌, ◌≤◌, length}
use Rattle.math_utils.proofs.Entries.{Columns}
use Rattle.math_utils.proofs.stirling.fill_row.Given as goal

abbrev pub invariant-loop-j : goal.invariant-loop-j
invariant-loop-j l =
    (0 < l.j) × (l.j ≤ l.i + 1) × (length l.table ≡ length l.initial.table)
    × Columns l.bitwidth l.side l.from l.i l.first l.step l.initial.table l.table l.factor l.left l.j

abbrev pub decreases-loop-j : goal.decreases-loop-j
decreases-loop-j l = l.i - l.j
