-- The call is on the tables that the bytes hold; what is lent for the coefficients is zeros.
use Rattle.std.proofs.Common.{ap, ap₂, ◌∙◌}
use Rattle.meaning.specs.Calls.{recovery_number, recovery_left}
use Rattle.settings.specs.Forms.{degrees_of}
use Rattle.byte_calls.specs.Bytes.{encoded}
use Rattle.byte_calls.specs.TableLaws.{lent-zeros}
use Rattle.byte_calls.proofs.held.recover_in.Goals as goal

pub returns-clause-says : goal.returns-clause-says
returns-clause-says g c =
    let s = c.args.settings.now in
    c.recover_multivar_poly-outcome.ensures.says
    ∙ ap₂ (recovery_number s.total s.bitwidth s.support.now (degrees_of s)) c.decode.ensures (lent-zeros _ g.row.ROOM c.requires.room.0)

pub returns-clause-leaves : goal.returns-clause-leaves
returns-clause-leaves g c =
    let s = c.args.settings.now in
    c.encode.ensures
    ∙ ap encoded
    (c.recover_multivar_poly-outcome.ensures.leaves
    ∙ ap₂ (recovery_left s.total s.bitwidth s.support.now (degrees_of s)) c.decode.ensures (lent-zeros _ g.row.ROOM c.requires.room.0))
