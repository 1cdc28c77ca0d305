-- The room and the number are those of the definitions, and the one keeps to the other.
use Rattle.settings.specs.Forms.{degrees_of}
use Rattle.calls_together.proofs.KeptRooms.{recovery_keeps}
use Rattle.calls_together.proofs.rooms.recover_in_room.Goals as goal

pub returns : goal.returns
returns c =
    let k = c.args in
    let s = k.settings.now in
    recovery_keeps s.total s.bitwidth s.support.now (degrees_of s) k.values.now k.out.now c.recovery_room-room.ensures.says
    c.recover_multivar_poly-call.ensures.says
