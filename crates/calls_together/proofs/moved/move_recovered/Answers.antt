-- The moved form has the readings at the grid points, and recovery leaves the only normal form that has.
use Rattle.calls_together.proofs.MovedForms.{recovered_follows}
use Rattle.calls_together.proofs.moved.move_recovered.Goals as goal

pub returns : goal.returns
returns c =
    let k = c.args in
    recovered_follows k.moved.now k.found.now c.recover_multivar_poly-first.ensures.decides c.move_datum-second.ensures.moves
    c.recover_multivar_poly-third.ensures.says c.recover_multivar_poly-third.ensures.decides
