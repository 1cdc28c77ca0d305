-- The loop multiplies one row after the other.
use Rattle.std.specs.Prelude.{◌*◌, ◌%◌, ◌^◌, length}
use Rattle.meaning.specs.Tables.{at}
use Rattle.weighted_poly_fit.specs.Entries.{fallen}
use Rattle.theory.specs.FilledRows.{Rows}
use Rattle.weighted_poly_fit.proofs.fit.Given.weigh_rows.Given as goal

abbrev pub invariant-loop-i : goal.invariant-loop-i
invariant-loop-i l =
    let g = l.self in
    Rows (λ n c. (at g.weights.now n * fallen g.bitwidth n c) % 2 ^ g.bitwidth) (length g.weights.now) g.cols l.initial.matrix l.matrix (l.i * g.cols) l.i
