-- The room and the reply are those of the definitions, and the one keeps to the other; the room does not look at the tables.
use Rattle.meaning.specs.Fit.{fit_of}
use Rattle.meaning.specs.Counts.{fit_room_lem}
use Rattle.calls_together.proofs.KeptRooms.{reply_keeps}
use Rattle.calls_together.proofs.rooms.fit_in_room.Goals as goal

pub returns : goal.returns
unfolding fit_room_lem
returns c =
    let k = c.args in
    let s = k.settings.now in
    reply_keeps
    (fit_of s.total s.bitwidth s.support.now s.max_degree s.grid_degree k.weights.now k.targets.now k.matrix.now k.right.now k.out.now)
    c.fit_room-room.ensures.says c.recover_weighted_poly-call.ensures.calls.0
