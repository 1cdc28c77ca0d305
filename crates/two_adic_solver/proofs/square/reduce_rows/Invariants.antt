-- The loop: the first rows are reduced, the others as they were.
use Rattle.two_adic_solver.proofs.FixedLaws.{RowsReduced}
use Rattle.two_adic_solver.proofs.square.reduce_rows.Given as goal

abbrev pub invariant-loop-row : goal.invariant-loop-row
invariant-loop-row l = RowsReduced l.width.bits l.initial.matrix l.matrix l.row-index
