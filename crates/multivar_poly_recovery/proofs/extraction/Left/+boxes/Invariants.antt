-- The measure is the number of degrees. A box that is one row is `row`'s, one variable `line`'s, two `plane`'s. Else the loop: the sub-boxes below exponent e
-- pass and are done, and `bits` are those that e leaves; the first sub-box that fails makes the box fail.
use Rattle.std.proofs.Common.{◌≡◌, ◌+◌, length, take}
use Rattle.meaning.specs.Tables.{at}
use Rattle.multivar_poly_recovery.proofs.SubBoxes.{SubBoxes, Layout}
use Rattle.multivar_poly_recovery.proofs.extraction.Left.+boxes.Given as goal

abbrev pub decreases-boxes : goal.decreases-boxes
decreases-boxes l = length l.degrees.now

abbrev pub invariant-loop-e : goal.invariant-loop-e
invariant-loop-e l =
    let s = l.self in
    SubBoxes s.bits s.inverse s.width (take l.last l.degrees) (at l.degrees l.last) l.initial.part l.part l.bits l.from l.e
    × Layout l.degrees l.initial.part l.last l.size
    × (l.count ≡ at l.degrees l.last + 1)
