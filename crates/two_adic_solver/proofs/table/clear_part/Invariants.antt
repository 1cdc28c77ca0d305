-- The loop: the first `row` rows are as after the column's step from `from` on, the others as they were. The copy of the pivot row's part stays that of the
-- matrix, since the pivot row, which is marked, is not altered.
use Rattle.two_adic_solver.proofs.RowLoops.{Next, Cleared}
use Rattle.two_adic_solver.proofs.table.clear_part.Given as goal

abbrev pub invariant-loop-row : goal.invariant-loop-row
invariant-loop-row l =
    let p = l.pivot in
    let next = Next p.width.bits l.columns p.column p.row l.end l.side p.twos p.inverse l.used l.initial.entries l.initial.right in
    Cleared p.width.bits l.columns p.column l.from next l.initial.entries l.initial.right l.entries l.right l.row
