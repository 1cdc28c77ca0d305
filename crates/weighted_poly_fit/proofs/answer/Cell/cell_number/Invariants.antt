-- The loop adds one variable after the other, the last first.
use Rattle.weighted_poly_fit.proofs.ExponentLists.{CellFrom}
use Rattle.weighted_poly_fit.proofs.answer.Cell.cell_number.Given as goal

abbrev pub invariant-loop-i : goal.invariant-loop-i
invariant-loop-i l = CellFrom l.self.degrees.now l.self.exps.now l.number l.i
