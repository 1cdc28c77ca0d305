-- The support's bytes and the settings on the grid decide first, then the matrix is measured, then the tables; what passes has room.
use Rattle.std.proofs.Common.{ℕ, ◌*◌, length-take, ◌≡◌, false, ◌&&◌, sym, ap, ap₂, ◌∙◌, le_refl, take, arith}
use Rattle.meaning.specs.Settings.{byte_limit}
use Rattle.answers.specs.Laws.{handed_on}
use Rattle.byte_calls.specs.Bytes.{decoded}
use Rattle.byte_calls.specs.Calls.{holds}
use Rattle.byte_calls.specs.Forms.{byte_grid, byte_degrees}
use Rattle.byte_calls.specs.TableLaws.{Boxed}
use Rattle.byte_calls.proofs.ByteFits.{Counted, grid_boxed, grid_held, grid_unboxed, fit_turned, fit_wide, fit_sized_lem, fit_large_lem, counted, fit_fits, fit_uneven, fit_done}
use Rattle.byte_calls.proofs.fit.fit.Goals.{In_ok-rows, After-count_cells-cells}
use Rattle.byte_calls.proofs.fit.fit.Goals.{then-not-holds-via-then-not-holds, then-not-holds-via-else-not-holds+then-not-holds-2}
use Rattle.byte_calls.proofs.fit.fit.Goals.{then-not-holds-via-else-not-holds+else-not-holds-2+then-not-holds-3}
use Rattle.byte_calls.proofs.fit.fit.Goals as goal

-- the settings of the grid pass
passed : (c : In_ok-rows) → Boxed false (byte_grid c.args.settings.now) (byte_degrees (byte_grid c.args.settings.now)) c.in_ok-rows.rows
passed c = grid_boxed c.args.settings.now c.grid.ensures c.check.ensures.says c.in_ok-rows.was

-- so that the places begin with its indices
held : (c : In_ok-rows) → take c.args.settings.now.count c.check.new.places ≡ decoded c.args.settings.now.support.now
held c = grid_held c.args.settings.now _ c.grid.ensures c.check.ensures.leaves (passed c).held

-- the matrix is small enough
measured : (c : After-count_cells-cells) → let k = c.args in
    Counted k.settings.now k.weights.now k.targets.now k.out.now c.on-asked.result
    (record { rows = c.in_ok-rows.rows; columns = c.in_ok-columns.columns; entries = c.in_ok-rows.rows * c.in_ok-columns.columns }) c.count_cells-cells.result
measured c =
    let k = c.args in
    let b = grid_boxed k.settings.now c.grid.ensures c.check.ensures.says c.in_ok-rows.was in
    counted k.settings.now k.weights.now k.targets.now k.out.now b c.on-asked.ensures (grid_held k.settings.now _ c.grid.ensures c.check.ensures.leaves b.held)
    c.fit_columns.ensures c.in_ok-columns.was c.if-needs.false c.answer.ensures c.degrees-degrees.ensures.all c.as_slice.ensures c.count_cells-cells.ensures

pub returns-in_err-rows : goal.returns-in_err-rows
returns-in_err-rows c =
    let k = c.args in
    let none = grid_unboxed k.settings.now c.grid.ensures c.check.ensures.says c.in_err-rows.was in
    let x = fit_turned k.settings.now k.weights.now k.targets.now k.out.now _ none in
    rw (handed_on _ c.from_residual.ensures.1) (record { says = x.0; leaves = x.1.0; fits = x.1.1 })

pub slice_bounds-places-end : goal.slice_bounds-places-end
slice_bounds-places-end c = omega (arith, (passed (goal.at.slice_bounds-places-end c).In_ok-rows).held.few)

pub slice_bounds-on-end : goal.slice_bounds-on-end
slice_bounds-on-end c = omega (arith, length-take {A = ℕ}, (passed (goal.at.slice_bounds-on-end c).In_ok-rows).held.few)

pub returns-in_err-columns : goal.returns-in_err-columns
returns-in_err-columns c =
    let k = c.args in
    let at = (goal.at.returns-in_err-columns c).In_ok-rows in
    let x = fit_wide k.settings.now k.weights.now k.targets.now k.out.now (passed at) c.on-asked.ensures (held at) c.fit_columns.ensures c.in_err-columns.was in
    rw (handed_on _ c.from_residual-in_err-columns.ensures.1) (record { says = x.0; leaves = x.1.0; fits = x.1.1 })

pub overflow_mul-needs : goal.overflow_mul-needs
overflow_mul-needs c =
    let k = c.args in
    let at = (goal.at.overflow_mul-needs c).In_ok-rows in
    let x = fit_sized_lem k.settings.now k.weights.now k.targets.now k.out.now (passed at) c.on-asked.ensures (held at) c.fit_columns.ensures
    c.in_ok-columns.was in
    omega (arith, x.1)

pub returns-then-needs : goal.returns-then-needs
returns-then-needs c =
    let k = c.args in
    let at = (goal.at.returns-then-needs c).In_ok-rows in
    let x = fit_large_lem k.settings.now k.weights.now k.targets.now k.out.now (passed at) c.on-asked.ensures (held at) c.fit_columns.ensures c.in_ok-columns.was
    c.if-needs.true in
    record { says = x.0; leaves = x.1.0; fits = x.1.1 }

pub returns-then-not-holds : goal.returns-then-not-holds
returns-then-not-holds c =
    let k = c.args in
    let rows = c.in_ok-rows.rows in
    let cells = c.count_cells-cells.result in
    let wrong : (holds k.weights.now rows && holds k.targets.now rows && holds k.out.now cells) ≡ false =
    elim c.then-not-holds.branch [
      | then-not-holds-via-then-not-holds w ↦ ap (λ b. b && holds k.targets.now rows && holds k.out.now cells) (sym c.holds.ensures ∙ w.if-not-holds.true)
      | then-not-holds-via-else-not-holds+then-not-holds-2 w ↦
          ap₂ (λ a b. a && b && holds k.out.now cells) (sym c.holds.ensures ∙ w.if-not-holds.false)
          (sym w.holds-else-not-holds.ensures ∙ w.if-not-holds-2.true)
      | then-not-holds-via-else-not-holds+else-not-holds-2+then-not-holds-3 w ↦
          ap₂ (λ a b. a && b && holds k.out.now cells) (sym c.holds.ensures ∙ w.if-not-holds.false)
          (sym w.holds-else-not-holds.ensures ∙ w.if-not-holds-2.false)
          ∙ sym w.holds-else-not-holds-2.ensures ∙ w.if-not-holds-3.true
    ] in
    let x = fit_uneven _ _ _ _ (measured (goal.at.returns-then-not-holds c).After-count_cells-cells) wrong in
    record { says = x.0; leaves = x.1.0; fits = x.1.1 }

pub fit_in-requires-clause-room : goal.fit_in-requires-clause-room
fit_in-requires-clause-room c =
    let fits = fit_fits _ _ _ _ (measured (goal.at.fit_in-requires-clause-room c).After-count_cells-cells) in
    (omega (arith, fits.0, c.if-needs-le128.true), c.if-needs-le128.true, omega (arith, fits.1, c.if-needs-le128.true), omega arith)

pub returns-then-needs-le128 : goal.returns-then-needs-le128
returns-then-needs-le128 c =
    let x = fit_done _ _ _ _ (measured (goal.at.returns-then-needs-le128 c).After-count_cells-cells)
    (sym c.holds.ensures ∙ c.if-not-holds.false) (sym c.holds-else-not-holds.ensures ∙ c.if-not-holds-2.false)
    (sym c.holds-else-not-holds-2.ensures ∙ c.if-not-holds-3.false) c.fit_in.ensures.says c.fit_in.ensures.leaves in
    record { says = x.0; leaves = x.1.0; fits = x.1.1 }

pub fit_in-requires-2-clause-room : goal.fit_in-requires-2-clause-room
fit_in-requires-2-clause-room c =
    let fits = fit_fits _ _ _ _ (measured (goal.at.fit_in-requires-2-clause-room c).After-count_cells-cells) in
    (omega (arith, fits.0, c.if-needs.false), c.if-needs.false, omega (arith, fits.1, c.if-needs.false), le_refl byte_limit)

pub returns : goal.returns
returns c =
    let x = fit_done _ _ _ _ (measured (goal.at.returns c).After-count_cells-cells)
    (sym c.holds.ensures ∙ c.if-not-holds.false) (sym c.holds-else-not-holds.ensures ∙ c.if-not-holds-2.false)
    (sym c.holds-else-not-holds-2.ensures ∙ c.if-not-holds-3.false) c.fit_in-2.ensures.says c.fit_in-2.ensures.leaves in
    record { says = x.0; leaves = x.1.0; fits = x.1.1 }
