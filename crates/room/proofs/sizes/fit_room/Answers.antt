-- The settings of the grid decide first; where they pass the answer's box has no more cells than the grid, and its columns are counted.
use Rattle.std.proofs.Common.{◌≡◌, sym, ap, ap₂, subst, ◌∙◌, false, List, ℕ, ◌*◌, ◌≤◌, ◌<◌, mul-le-mul, le_trans, le_of_eq, arith, length, Result, Ok, Err}
use Rattle.meaning.specs.Boxes.{cells}
use Rattle.meaning.specs.Settings.{table_limit, fits_width, cube}
use Rattle.meaning.specs.Calls.{settings_reply}
use Rattle.meaning.specs.Fit.{columns, fit_columns_of, fit_rows}
use Rattle.meaning.specs.Counts.{FitRoom, fit_room_lem}
use Rattle.answers.specs.declared.Refusal.{Refusal}
use Rattle.answers.specs.Said.{said, code}
use Rattle.answers.specs.Laws.{handed_on}
use Rattle.settings.specs.declared.Settings.{Settings}
use Rattle.settings.specs.Forms.{degrees_of}
use Rattle.settings.specs.Causes.{passes, settings-cells-le}
use Rattle.settings.specs.Settled.{Settled, settled, unsettled}
use Rattle.theory.specs.FitSizes.{cells-cube-le}
use Rattle.theory.specs.ColumnCount.{columns-le-cells}
use Rattle.room.specs.declared.sizes.FitSettings.{FitSettings}
use Rattle.room.specs.Sizes.{fit_asked, grid_of, fit_room_told, fit_room_said}
use Rattle.room.specs.SizeLaws.{lent_degrees}
use Rattle.room.specs.FitPromises.{FitCosts}
use Rattle.room.proofs.FitRooms.{size_turned, size_large, size_passed, fit_room_turned, fit_room_passed, fit_costs}
use Rattle.room.proofs.sizes.fit_room.Goals.{After-as_slice}
use Rattle.room.proofs.sizes.fit_room.Goals as goal

module _ (s : FitSettings) where
  -- an answer that says the room says what it costs
  costs_of : {r : FitRoom} → r ≡ fit_room_lem (fit_asked s) → FitCosts (length s.support.now) s.max_degree s.grid_degree r
  costs_of e =
      subst (FitCosts (length s.support.now) s.max_degree s.grid_degree) (sym e)
      (fit_costs s.total s.bitwidth s.support.now s.max_degree s.grid_degree)

  module _ {grid : Settings} (is : grid ≡ grid_of s) {answer : Result ℕ Refusal}
      (checks : said answer ≡ settings_reply false grid.total grid.bitwidth grid.support.now (degrees_of grid)) where
    -- the settings of the grid are turned down
    turned : {r : Refusal} → answer ≡ Err r → fit_room_told (code r) 0 0 0 ≡ fit_room_lem (fit_asked s)
    unfolding settings_reply
    turned {r} e =
        fit_room_turned (fit_asked s) r
        (size_turned (fit_asked s) r
        (unsettled false s.total (fits_width s.bitwidth) s.support.now (cube s.support.now s.grid_degree) (rw is at checks) e).refuses)

    -- they pass, with as many cells as they say
    module _ {rows : ℕ} (e : answer ≡ Ok rows) where
      ok : Settled false s.total (fits_width s.bitwidth) s.support.now (cube s.support.now s.grid_degree) rows
      unfolding settings_reply
      ok = settled _ _ _ _ _ (rw is at checks) e

      short : length s.support.now ≤ 20
      short = (passes table_limit _ _ _ _ _ ok.passes).short

      rows-le : rows ≤ 65536
      rows-le = le_trans (le_of_eq ok.counted) (settings-cells-le table_limit _ _ _ _ _ ok.passes)

      module _ {ds : List ℕ} (box : ds ≡ (fit_asked s).degrees) where
        box-le : cells ds ≤ 65536
        box-le =
            le_trans (le_of_eq (ap cells box))
            (le_trans (cells-cube-le (length s.support.now) s.max_degree s.grid_degree) (settings-cells-le table_limit _ _ _ _ _ ok.passes))

        -- the columns and the entries of the matrix
        module _ {c : ℕ} (q : c ≡ length (columns ds s.max_degree)) where
          counted : c ≡ length (fit_columns_of (fit_asked s))
          counted = q ∙ ap (λ (ds : List ℕ). length (columns ds s.max_degree)) box

          columns-le : c ≤ 65536
          columns-le = le_trans (le_of_eq q) (le_trans (columns-le-cells ds s.max_degree) box-le)

          entries-le : rows * c ≤ 65536 * 65536
          entries-le = mul-le-mul rows-le columns-le

          entries : rows * c ≡ fit_rows (fit_asked s) * length (fit_columns_of (fit_asked s))
          entries = ap₂ ◌*◌ ok.counted counted

          large : 65536 < rows * c → fit_room_told 8 0 0 0 ≡ fit_room_lem (fit_asked s)
          large h = fit_room_turned (fit_asked s) Refusal.TooLarge (size_large (fit_asked s) ok.passes (omega (arith, entries)))

          passed : rows * c ≤ 65536 → fit_room_told 0 rows c (rows * c) ≡ fit_room_lem (fit_asked s)
          passed h = fit_room_passed (fit_asked s) _ _ (size_passed (fit_asked s) ok.passes (omega (arith, entries))) ok.counted counted

-- the degrees of the answer's box are lent
lent : (c : After-as_slice) → c.as_slice.result.now ≡ (fit_asked c.args.settings.now).degrees
lent c =
    c.as_slice.ensures
    ∙ lent_degrees c.answer.ensures c.degrees-degrees.ensures.all (short c.args.settings.now c.grid.ensures c.check.ensures c.in_ok-rows.was)

pub returns-in_err-rows-clause-says : goal.returns-in_err-rows-clause-says
returns-in_err-rows-clause-says c =
    ap fit_room_said (handed_on _ c.from_residual.ensures.1) ∙ turned c.args.settings.now c.grid.ensures c.check.ensures c.in_err-rows.was

pub count_columns-columns-requires : goal.count_columns-columns-requires
count_columns-columns-requires c =
    let s = c.args.settings.now in
    let box = lent (goal.at.count_columns-columns-requires c).After-as_slice in
    box-le s c.grid.ensures c.check.ensures c.in_ok-rows.was box

pub overflow_mul-entries : goal.overflow_mul-entries
overflow_mul-entries c =
    let s = c.args.settings.now in
    let box = lent (goal.at.overflow_mul-entries c).After-as_slice in
    record { fits = omega (arith, entries-le s c.grid.ensures c.check.ensures c.in_ok-rows.was box c.count_columns-columns.ensures) }

pub returns-then-entries-clause-says : goal.returns-then-entries-clause-says
returns-then-entries-clause-says c =
    let s = c.args.settings.now in
    let box = lent (goal.at.returns-then-entries-clause-says c).After-as_slice in
    large s c.grid.ensures c.check.ensures c.in_ok-rows.was box c.count_columns-columns.ensures c.if-entries.true

pub returns : goal.returns
returns c =
    let s = c.args.settings.now in
    let box = lent (goal.at.returns c).After-as_slice in
    let says = passed s c.grid.ensures c.check.ensures c.in_ok-rows.was box c.count_columns-columns.ensures c.if-entries.false in
    record { says = says; costs = costs_of s says }
