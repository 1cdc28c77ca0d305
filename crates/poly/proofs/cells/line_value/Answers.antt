-- The loop has the sum of the cells before it.
use Rattle.std.proofs.Common.{refl}
use Rattle.poly.proofs.BoxValues.{added_start, added_next}
use Rattle.poly.proofs.cells.line_value.Goals as goal

pub loop-i-init : goal.loop-i-init
loop-i-init c = added_start

pub loop-i-preserved : goal.loop-i-preserved
loop-i-preserved c = added_next c.loop-i.invariant c.loop-i-test.true c.wrapping_mul-sum.ensures refl
