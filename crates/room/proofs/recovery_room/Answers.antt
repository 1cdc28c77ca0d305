-- The settings decide; where they pass, the cells are counted with them, and the subtractions over the degrees that are lent.
use Rattle.std.proofs.Common.{◌≡◌, sym, ap, subst, ◌∙◌, le_trans, le_of_eq, ℕ, ◌≤◌, true, List, length, Result, Ok, Err}
use Rattle.std.proofs.lemmas.List.{length-replicate}
use Rattle.meaning.specs.Boxes.{cells}
use Rattle.meaning.specs.Settings.{table_limit, fits_width}
use Rattle.meaning.specs.Calls.{settings_reply}
use Rattle.meaning.specs.Counts.{subtractions, RecoveryRoom, recovery_room_lem}
use Rattle.settings.specs.declared.Settings.{Settings}
use Rattle.settings.specs.Causes.{passes, settings-cells-le}
use Rattle.settings.specs.Forms.{degrees_of}
use Rattle.settings.specs.Settled.{Settled, settled, unsettled}
use Rattle.answers.specs.declared.Refusal.{Refusal}
use Rattle.answers.specs.Said.{said, code}
use Rattle.answers.specs.Laws.{handed_on}
use Rattle.room.specs.Promises.{Costs}
use Rattle.room.specs.Told.{room_told, room_said}
use Rattle.room.proofs.Rooms.{room_turned, room_passed, room_costs}
use Rattle.room.proofs.recovery_room.Goals as goal

module _ (s : Settings) where
  -- an answer that says the room says what it costs
  costs_of : {r : RecoveryRoom} → r ≡ recovery_room_lem s.total s.bitwidth s.support.now (degrees_of s) → Costs (length s.support.now) s.max_degree r
  costs_of e = subst (Costs (length s.support.now) s.max_degree) (sym e) (room_costs s.total s.bitwidth s.support.now s.max_degree)

  module _ {answer : Result ℕ Refusal} (says : said answer ≡ settings_reply true s.total s.bitwidth s.support.now (degrees_of s)) where
    -- the settings are turned down
    turned : {r : Refusal} → answer ≡ Err r → room_told (code r) 0 0 ≡ recovery_room_lem s.total s.bitwidth s.support.now (degrees_of s)
    unfolding settings_reply
    turned {r} e =
        room_turned s.total s.bitwidth s.support.now (degrees_of s) r
        (unsettled true s.total (fits_width s.bitwidth) s.support.now (degrees_of s) says e).refuses

    -- they pass, with as many cells as they say
    module _ {count : ℕ} (e : answer ≡ Ok count) where
      ok : Settled true s.total (fits_width s.bitwidth) s.support.now (degrees_of s) count
      unfolding settings_reply
      ok = settled _ _ _ _ _ says e

      short : length s.support.now ≤ 20
      short = (passes table_limit _ _ _ _ _ ok.passes).short

      count-le : count ≤ 65536
      count-le = le_trans (le_of_eq ok.counted) (settings-cells-le table_limit _ _ _ _ _ ok.passes)

      -- over the degrees that are lent
      module _ {ds : List ℕ} (lent : ds ≡ degrees_of s) where
        lent_cells : count ≡ cells ds
        lent_cells = ok.counted ∙ ap cells (sym lent)

        lent_short : length ds ≤ 20
        lent_short = le_trans (le_of_eq (ap length lent ∙ length-replicate (length s.support.now) s.max_degree)) short

        passed : {m : ℕ} → m ≡ subtractions ds → room_told 0 count m ≡ recovery_room_lem s.total s.bitwidth s.support.now (degrees_of s)
        passed q = room_passed s.total s.bitwidth s.support.now (degrees_of s) _ _ ok.passes ok.counted (q ∙ ap subtractions lent)

pub returns-in_err-cells-clause-says : goal.returns-in_err-cells-clause-says
returns-in_err-cells-clause-says c = ap room_said (handed_on _ c.from_residual.ensures.1) ∙ turned c.args.settings.now c.check.ensures c.in_err-cells.was

pub count_subtractions-subtractions-requires : goal.count_subtractions-subtractions-requires
count_subtractions-subtractions-requires c =
    let s = c.args.settings.now in
    let few = short s c.check.ensures c.in_ok-cells.was in
    let lent = c.as_slice.ensures ∙ c.degrees-degrees.ensures.all few in
    (lent_cells s c.check.ensures c.in_ok-cells.was lent, count-le s c.check.ensures c.in_ok-cells.was, lent_short s c.check.ensures c.in_ok-cells.was lent)

pub returns : goal.returns
returns c =
    let s = c.args.settings.now in
    let few = short s c.check.ensures c.in_ok-cells.was in
    let says =
    passed s c.check.ensures c.in_ok-cells.was (c.as_slice.ensures ∙ c.degrees-degrees.ensures.all few) c.count_subtractions-subtractions.ensures in
    record { says = says; costs = costs_of s says }
