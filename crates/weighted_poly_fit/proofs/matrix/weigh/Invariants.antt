-- The loop multiplies one entry after the other, and stops at one that is zero.
use Rattle.weighted_poly_fit.proofs.MatrixRows.{Weighed}
use Rattle.weighted_poly_fit.proofs.matrix.weigh.Given as goal

abbrev pub invariant-loop-entry : goal.invariant-loop-entry
invariant-loop-entry l = Weighed l.initial.row l.weight l.bitwidth l.mask l.row l.entry-index
