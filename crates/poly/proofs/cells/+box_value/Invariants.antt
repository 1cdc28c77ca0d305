-- The measure is the number of degrees. One variable is a line; else the loop walks over the sub-boxes of the last variable and has the total of those before
-- it, until the falling product is zero.
use Rattle.std.proofs.Common.{length}
use Rattle.box_rows.specs.Walks.{Walk}
use Rattle.poly.proofs.BoxValues.{Summed}
use Rattle.poly.proofs.cells.+box_value.Given as goal

abbrev pub decreases-box_value : goal.decreases-box_value
decreases-box_value l = length l.degrees.now

abbrev pub invariant-loop-e : goal.invariant-loop-e
invariant-loop-e l = Walk l.degrees (length l.coeffs) l.count l.e l.from × Summed l.degrees l.coeffs l.products l.size l.sum l.e
