-- The matrix is cleared; the loop fills one column after the other.
use Rattle.std.specs.Prelude.{length}
use Rattle.weighted_poly_fit.specs.Entries.{weighed}
use Rattle.weighted_poly_fit.proofs.MatrixColumns.{Columns}
use Rattle.weighted_poly_fit.proofs.fit.Given.fill_columns.Given as goal

abbrev pub invariant-loop-c : goal.invariant-loop-c
invariant-loop-c l =
    let g = l.self in
    Columns (weighed g.bitwidth g.grid.now l.columns g.weights.now) (length g.weights.now) g.cols l.initial.matrix l.matrix l.c
