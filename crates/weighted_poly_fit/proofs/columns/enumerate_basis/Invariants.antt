-- The loop over the total degrees.
use Rattle.weighted_poly_fit.proofs.ByDegrees.{Degrees}
use Rattle.weighted_poly_fit.proofs.columns.enumerate_basis.Given as goal

abbrev pub invariant-loop-degree : goal.invariant-loop-degree
invariant-loop-degree l = Degrees l.initial.table l.initial.current l.degrees l.last l.table l.current l.next l.degree
