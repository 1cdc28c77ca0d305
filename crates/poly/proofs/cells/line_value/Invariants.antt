-- The loop has the sum of the cells before it.
use Rattle.poly.proofs.BoxValues.{Added}
use Rattle.poly.proofs.cells.line_value.Given as goal

abbrev pub invariant-loop-i : goal.invariant-loop-i
invariant-loop-i l = Added l.coeffs l.products l.sum l.i
