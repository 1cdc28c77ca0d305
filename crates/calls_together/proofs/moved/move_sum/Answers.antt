-- Each call leaves the moved form or the sum, and moving goes with sums.
use Rattle.settings.specs.Forms.{degrees_of}
use Rattle.calls_together.proofs.MovedForms.{sum-moved-follows}
use Rattle.calls_together.proofs.moved.move_sum.Goals as goal

pub returns : goal.returns
returns c =
    let k = c.args in
    let s = k.settings.now in
    let e₁ = c.move_datum-first.ensures in
    let e₂ = c.move_datum-second.ensures in
    let e₃ = c.sum-sum.ensures in
    let e₄ = c.sum-total.ensures in
    let e₅ = c.move_datum-moved.ensures in
    sum-moved-follows s.total s.bitwidth s.support.now (degrees_of s) k.a.now k.b.now k.offsets.now k.x.now k.y.now k.summed.now k.whole.now k.shifted.now
    (e₁.says, e₁.leaves) (e₂.says, e₂.leaves) (e₃.says, e₃.leaves) (e₄.says, e₄.leaves) (e₅.says, e₅.leaves)
