-- The settings decide first, with the room; where they pass there are at most twenty variables, and the degrees that are lent are those of the two boxes.
use Rattle.std.specs.Prelude.{◌≡◌, false, cond, List, ℕ, ◌+◌, ◌*◌, ◌≤◌, min, eqb, length}
use Rattle.std.proofs.Math.ListN.{length-replicate}
use Rattle.std.proofs.Common.{sym, ap, ap₂, subst, ◌∙◌, le_trans, le_of_eq, lt_of_lt_of_le, arith, Result, Ok}
use Rattle.meaning.specs.Boxes.{cells}
use Rattle.meaning.specs.Settings.{table_limit, fits_width, settings_number}
use Rattle.meaning.specs.Fit.{Fit, fit_of, fit_rows, fit_columns_of}
use Rattle.meaning.specs.Counts.{fit_room_lem}
use Rattle.theory.specs.Ranges.{width_high}
use Rattle.answers.specs.declared.Refusal.{Refusal}
use Rattle.answers.specs.Said.{said}
use Rattle.answers.specs.Laws.{handed_on}
use Rattle.settings.specs.Causes.{Passes, passes, settings-cells-le}
use Rattle.settings.specs.Forms.{degrees_of}
use Rattle.theory.specs.FitSizes.{cells-cube-le}
use Rattle.room.specs.Sizes.{fit_room_said, fit_asked, answer_of, grid_of}
use Rattle.room.specs.declared.sizes.FitRoom as answer
use Rattle.room.specs.declared.sizes.FitSettings.{FitSettings}
use Rattle.room.specs.SizeLaws.{size_parts, Told, told_turned, told_counts, lent_degrees}
use Rattle.weighted_poly_fit.specs.Fitting.{Shaped, Counted}
use Rattle.weighted_poly_fit.specs.Fits.{Called}
use Rattle.weighted_poly_fit.specs.FitsLaws.{cubes_same}
use Rattle.weighted_poly_fit.proofs.FitCalls.{cube-low, call_settled, call_turned, fitted_degrees}
use Rattle.weighted_poly_fit.proofs.RoomLaws.{tabled_side, tabled_few}
use Rattle.weighted_poly_fit.proofs.fit.weighted_fit.Goals as goal

module _ (s : FitSettings) (weights targets matrix right out : List ℕ) where
  -- the fit that is asked for
  abbrev asked : Fit
  asked = fit_of s.total s.bitwidth s.support.now s.max_degree s.grid_degree weights targets matrix right out

  -- the answer says its room
  told : {x : Result answer.FitRoom Refusal} {room : answer.FitRoom} → x ≡ Ok room → fit_room_said x ≡ fit_room_lem (fit_asked s)
      → Told asked room.rows room.columns room.entries
  unfolding fit_room_lem
  told p q = told_counts asked (sym (ap fit_room_said p) ∙ q)

-- the settings pass, with as many rows and columns as they say
module _ {f : Fit} {r c e : ℕ} (t : Told f r c e) where
  parts : (settings_number false f.variables (fits_width f.width) f.support f.grid ≡ 0) × (fit_rows f * length (fit_columns_of f) ≤ 65536)
  parts = size_parts f t.passes

  pass : Passes f.variables (fits_width f.width) f.support
  pass = passes table_limit false f.variables (fits_width f.width) f.support f.grid parts.0

  grid_small : cells f.grid ≤ 65536
  grid_small = settings-cells-le table_limit false f.variables (fits_width f.width) f.support f.grid parts.0

-- what the fit of the two boxes asks
module _ (s : FitSettings) {weights targets matrix right out : List ℕ} {r c e : ℕ} (t : Told (asked s weights targets matrix right out) r c e)
    {ds gs : List ℕ} (box : ds ≡ degrees_of (answer_of s)) (grid : gs ≡ degrees_of (grid_of s)) where
  abbrev k : ℕ
  k = length s.support.now

  shaped : {side : ℕ} → side ≡ cond (eqb k 1) 0 (s.grid_degree + 1) → Shaped s.bitwidth side (min s.max_degree s.grid_degree + 1) ds gs
  shaped q =
      let p = pass t in
      let wide = length-replicate k s.grid_degree in
      rw (box, grid)
      (record {
        fits = p.width;
        high = width_high s.bitwidth p.width;
        same = cubes_same s.support.now _ _;
        variables_few = le_trans (le_of_eq (length-replicate k _)) p.short;
        some = lt_of_lt_of_le p.not_empty (le_of_eq (sym (length-replicate k _)));
        products_few = tabled_few k s.grid_degree (min s.max_degree s.grid_degree) s.max_degree (omega arith) (parts t).1 p.not_empty q;
        below = λ j h. cube-low k _ j;
        grid_below = λ m j h. lt_of_lt_of_le (cube-low k s.grid_degree j) (le_of_eq (sym (tabled_side k s.grid_degree (lt_of_lt_of_le m (le_of_eq wide)) q)));
      })

  counted : Counted r c s.max_degree ds gs
  counted =
      rw (box, grid)
      (record {
        row_count = t.row_count;
        rows_few = le_trans (le_of_eq t.row_count) (grid_small t);
        box_small = le_trans (cells-cube-le k s.max_degree s.grid_degree) (le_of_eq (sym t.row_count));
        column_count = t.column_count;
        matrix_small = le_trans (le_of_eq (ap₂ ◌*◌ t.row_count t.column_count)) (parts t).1;
      })

pub invariant_of-given : goal.invariant_of-given
invariant_of-given c =
    let k = c.args in
    let s = k.settings.now in
    let t = told s k.weights.now k.targets.now k.matrix.now k.right.now k.out.now c.in_ok-room.was c.fit_room.ensures.says in
    let box = c.as_slice.ensures ∙ lent_degrees c.answer-answer.ensures c.degrees-degrees.ensures.all (pass t).short in
    let grid = c.as_slice-2.ensures ∙ lent_degrees c.grid.ensures c.degrees-grid.ensures.all (pass t).short in
    record { shaped = rw c.answer-answer.ensures (shaped s t box grid c.tabled.ensures); counted = counted s t box grid }

pub returns-in_err-room : goal.returns-in_err-room
unfolding fit_room_lem
returns-in_err-room c =
    let k = c.args in
    let s = k.settings.now in
    let f = asked s k.weights.now k.targets.now k.matrix.now k.right.now k.out.now in
    let r = c.in_err-room.field-0.0 in
    subst (λ (x : Result ℕ Refusal). Called f k.matrix.now k.right.now k.out.now (said x)) (sym (handed_on _ c.from_residual.ensures.1))
    (call_turned f r (told_turned f r (sym (ap fit_room_said c.in_err-room.was) ∙ c.fit_room.ensures.says)))

pub returns : goal.returns
returns c =
    let k = c.args in
    let s = k.settings.now in
    let t = told s k.weights.now k.targets.now k.matrix.now k.right.now k.out.now c.in_ok-room.was c.fit_room.ensures.says in
    let box = c.as_slice.ensures ∙ lent_degrees c.answer-answer.ensures c.degrees-degrees.ensures.all (pass t).short in
    let grid = c.as_slice-2.ensures ∙ lent_degrees c.grid.ensures c.degrees-grid.ensures.all (pass t).short in
    call_settled (asked s k.weights.now k.targets.now k.matrix.now k.right.now k.out.now) t.passes _ _ _ _
    (fitted_degrees s.bitwidth s.max_degree k.weights.now k.targets.now k.matrix.now k.right.now k.out.now box grid c.fit_box.ensures)
