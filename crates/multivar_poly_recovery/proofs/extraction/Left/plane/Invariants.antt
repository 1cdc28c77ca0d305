-- The loop: the lines below exponent e pass and are done, and `bits` are those that e leaves; the first line that fails makes the box fail.
use Rattle.std.proofs.Common.{[], ◌∷◌}
use Rattle.multivar_poly_recovery.proofs.SubBoxes.{SubBoxes}
use Rattle.multivar_poly_recovery.proofs.extraction.Left.plane.Given as goal

abbrev pub invariant-loop-e : goal.invariant-loop-e
invariant-loop-e l =
    let s = l.self in
    SubBoxes s.bits s.inverse s.width (l.first ∷ []) l.last l.initial.part l.part l.bits l.from l.e
