-- The loop: from `column` up to k the target row is less q times the source row, and all other entries are as they were.
use Rattle.two_adic_solver.proofs.FixedLaws.{RowLess}
use Rattle.two_adic_solver.proofs.square.subtract_row.Given as goal

abbrev pub invariant-loop-k : goal.invariant-loop-k
invariant-loop-k l = RowLess l.pivot.width.bits l.q l.pivot.row l.target l.pivot.column l.initial.matrix l.matrix l.k
