-- The measure is the number of variables that remain. The loop walks over the exponents of the first of them.
use Rattle.std.specs.Prelude.{length}
use Rattle.weighted_poly_fit.proofs.Steps.{Steps}
use Rattle.weighted_poly_fit.proofs.columns.+enumerate_basis_recurse.Given as goal

abbrev pub decreases-enumerate_basis_recurse : goal.decreases-enumerate_basis_recurse
decreases-enumerate_basis_recurse l = length l.degrees.now

abbrev pub invariant-loop-e : goal.invariant-loop-e
invariant-loop-e l = Steps l.initial.table l.at l.initial.current l.degrees l.left l.place l.highest l.table l.current l.next l.e
