-- Each call leaves the moved form, and two moves are one.
use Rattle.std.proofs.Common.{length}
use Rattle.std.proofs.lemmas.List.{length-replicate}
use Rattle.settings.specs.Forms.{degrees_of}
use Rattle.calls_together.proofs.MovedForms.{twice_follows}
use Rattle.calls_together.proofs.moved.move_twice.Goals as goal

pub returns : goal.returns
returns c =
    let k = c.args in
    let s = k.settings.now in
    let e₁ = c.move_datum-first.ensures in
    let e₂ = c.move_datum-second.ensures in
    let e₃ = c.move_datum-third.ensures in
    twice_follows s.total s.bitwidth s.support.now (degrees_of s) k.coeffs.now k.a.now k.b.now k.sums.now k.once.now k.twice.now k.both.now
    (e₁.says, e₁.leaves) (e₂.says, e₂.leaves) (e₃.says, e₃.leaves)
    (length-replicate (length s.support.now) s.max_degree)
