-- The call is on the tables that the bytes hold; what is lent for the system and the coefficients is zeros.
use Rattle.std.proofs.Common.{◌≡◌, ◌≤◌, ap, ◌∙◌, List, ℕ, take, replicate}
use Rattle.meaning.specs.Settings.{byte_limit}
use Rattle.meaning.specs.Fit.{fit_of, fit_reply, fit_out}
use Rattle.room.specs.declared.sizes.FitSettings.{FitSettings}
use Rattle.byte_calls.specs.Bytes.{decoded, encoded}
use Rattle.byte_calls.specs.Forms.{fit_lent}
use Rattle.byte_calls.specs.TableLaws.{lent-zeros}
use Rattle.byte_calls.proofs.rooms.fit_in.Goals as goal

lent : (s : FitSettings) (weights targets : List ℕ) {entries rows cells room : ℕ} {v u : List ℕ}
    → (rows ≤ room) × (entries ≤ room) × (cells ≤ room) × (room ≤ byte_limit) → v ≡ decoded weights → u ≡ decoded targets
    → fit_of s.total s.bitwidth s.support.now s.max_degree s.grid_degree v u (take entries (replicate room 0)) (take rows (replicate room 0))
    (take cells (replicate room 0)) ≡ fit_lent s weights targets entries rows cells
lent s weights targets {entries} {rows} {cells} {room} h e f =
    rw (e, f, lent-zeros entries room h.1, lent-zeros rows room h.0, lent-zeros cells room h.2)

pub returns-clause-says : goal.returns-clause-says
returns-clause-says g c =
    let k = c.args in
    c.recover_weighted_poly-answer.ensures.calls.0
    ∙ ap fit_reply (lent k.settings.now k.weights.now k.targets.now c.requires.room c.decode.ensures c.decode-2.ensures)

pub returns-clause-leaves : goal.returns-clause-leaves
returns-clause-leaves g c =
    let k = c.args in
    c.encode.ensures
    ∙ ap encoded
    (c.recover_weighted_poly-answer.ensures.calls.1.0
    ∙ ap fit_out (lent k.settings.now k.weights.now k.targets.now c.requires.room c.decode.ensures c.decode-2.ensures))
