-- The loop fills the row of one coordinate after the other.
use Rattle.std.specs.Prelude.{◌*◌}
use Rattle.weighted_poly_fit.specs.Entries.{fallen}
use Rattle.theory.specs.FilledRows.{Rows}
use Rattle.weighted_poly_fit.proofs.matrix.fill_products.Given as goal

abbrev pub invariant-loop-x : goal.invariant-loop-x
invariant-loop-x l = Rows (fallen l.bitwidth) l.side l.size l.initial.table l.table (l.x * l.size) l.x
