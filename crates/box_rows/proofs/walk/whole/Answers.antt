-- One variable is a line (`line_bounds`); few cells are walked without rows (`rowed_alone`).
use Rattle.std.proofs.Common.{refl}
use Rattle.box_rows.specs.Rows.{rowed_alone}
use Rattle.box_rows.proofs.Turns.{walked_cong, line_bounds}
use Rattle.box_rows.proofs.walk.whole.Goals as goal

pub returns-then-part-eq1 : goal.returns-then-part-eq1
returns-then-part-eq1 g c =
    let part = c.args.part.now in
    walked_cong _ _ refl (λ i h. line_bounds part.bits part.degrees.now c.if-part-eq1.true i (rw part.whole at h)) c.line.ensures

pub invariant_of-rows : goal.invariant_of-rows
invariant_of-rows g c = let r = rowed_alone c.args.part.now.degrees.now in record { room = r.room; laid = r.laid }
