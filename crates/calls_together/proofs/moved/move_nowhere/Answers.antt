-- The move leaves the moved form, which is the reduced box.
use Rattle.std.proofs.Common.{length}
use Rattle.std.proofs.lemmas.List.{length-replicate}
use Rattle.settings.specs.Forms.{degrees_of}
use Rattle.calls_together.proofs.MovedForms.{still_follows}
use Rattle.calls_together.proofs.moved.move_nowhere.Goals as goal

pub returns : goal.returns
returns c =
    let k = c.args in
    let s = k.settings.now in
    let e = c.move_datum-first.ensures in
    let f = c.reduce-second.ensures in
    still_follows s.total s.bitwidth s.support.now (degrees_of s) k.coeffs.now k.offsets.now k.out.now k.copy.now (e.says, e.leaves) (f.says, f.leaves)
    (length-replicate (length s.support.now) s.max_degree)
