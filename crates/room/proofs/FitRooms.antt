-- The room of a fit where its settings pass, where they are turned down, and what its counts are.
use Rattle.std.proofs.Common.{◌≡◌, refl, sym, ap, ap₂, ◌∙◌, Bool, false, cond, List, ℕ, zero, suc, ◌≤◌, ◌<◌, min, zero-le, suc-ne-zero, le_trans, lt-ltb}
use Rattle.std.proofs.Common.{le-ltb, length}
use Rattle.meaning.specs.Settings.{table_limit, fits_width, cube, first}
use Rattle.meaning.specs.Fit.{Fit, fit_rows, fit_columns_of, fit_settings_number}
use Rattle.meaning.specs.Counts.{fit_room_of, fit_room_lem}
use Rattle.theory.specs.Boxes.{cells_power}
use Rattle.theory.specs.Columns.{Ordered, ordered_none, ordered_more, not_in-after, in-columns-iff, columns_ordered}
use Rattle.theory.specs.ColumnCount.{columns-le-cells}
use Rattle.theory.specs.FitSizes.{cells-cube-le}
use Rattle.answers.specs.declared.Refusal.{Refusal}
use Rattle.answers.specs.Said.{code}
use Rattle.answers.specs.Laws.{code-suc, first_code}
use Rattle.settings.specs.Causes.{settings-cells-le}
use Rattle.room.specs.Sizes.{fit_settings, fit_room_told}
use Rattle.room.specs.SizeLaws.{grid_number, matrix_entries, size_parts}
use Rattle.room.specs.FitPromises.{Distinct, distinct_none, distinct_more, FitCosts}

module _ (f : Fit) where
  -- the settings of the grid are turned down, the matrix is too large, or nothing is
  pub size_turned : (r : Refusal) → grid_number f ≡ code r → fit_settings_number f ≡ code r
  size_turned r e = first_code r _ e

  pub size_large : grid_number f ≡ 0 → table_limit < matrix_entries f → fit_settings_number f ≡ 8
  size_large e h = ap₂ first e (ap (λ (b : Bool). cond b 8 0) (lt-ltb table_limit (matrix_entries f) h))

  pub size_passed : grid_number f ≡ 0 → matrix_entries f ≤ table_limit → fit_settings_number f ≡ 0
  size_passed e h = ap₂ first e (ap (λ (b : Bool). cond b 8 0) (le-ltb table_limit (matrix_entries f) h))

  -- the room in each case
  pub fit_room_turned : (r : Refusal) → fit_settings_number f ≡ code r → fit_room_told (code r) 0 0 0 ≡ fit_room_lem f
  unfolding fit_room_lem
  fit_room_turned r e =
      ap (λ (n : ℕ). fit_room_told n 0 0 0) (code-suc r)
      ∙ sym (ap (λ (n : ℕ). fit_room_of n (fit_rows f) (length (fit_columns_of f))) (e ∙ code-suc r))

  pub fit_room_passed : (r c : ℕ) → fit_settings_number f ≡ 0 → r ≡ fit_rows f → c ≡ length (fit_columns_of f) → fit_room_of 0 r c ≡ fit_room_lem f
  unfolding fit_room_lem
  fit_room_passed r c e p q = ap₂ (fit_room_of 0) p q ∙ sym (ap (λ (n : ℕ). fit_room_of n (fit_rows f) (length (fit_columns_of f))) e)

-- what its counts are

distinct_ordered : {fs : List (List ℕ)} → Ordered fs → Distinct fs
distinct_ordered ordered_none = distinct_none
distinct_ordered (ordered_more b o) = distinct_more (not_in-after b) (distinct_ordered o)

module _ (total w : ℕ) (support : List ℕ) (max-degree grid-degree : ℕ) where
  abbrev asked : Fit
  asked = fit_settings total w support max-degree grid-degree

  abbrev k : ℕ
  k = length support

  pub fit_costs : FitCosts k max-degree grid-degree (fit_room_lem asked)
  unfolding fit_room_lem
  fit_costs = go (fit_settings_number asked) refl
    where
      go : (n : ℕ) → fit_settings_number asked ≡ n → FitCosts k max-degree grid-degree (fit_room_of n (fit_rows asked) (length (fit_columns_of asked)))
      go zero e =
          let parts = size_parts asked e in
          let rows-le = settings-cells-le table_limit false total (fits_width w) support (cube support grid-degree) parts.0 in
          let box = cube support (min max-degree grid-degree) in
          record {
            points = λ h. cells_power k grid-degree;
            lists =
                λ h. record {
                  lists = fit_columns_of asked;
                  count = refl;
                  once = distinct_ordered (columns_ordered box max-degree);
                  all = in-columns-iff box max-degree;
                };
            product = λ h. refl;
            none = λ h. absurd (h refl);
            small = (rows-le, le_trans (columns-le-cells box max-degree) (le_trans (cells-cube-le k max-degree grid-degree) rows-le), parts.1);
          }
      go (suc n) e =
          record {
            points = λ h. absurd (suc-ne-zero n h);
            lists = λ h. absurd (suc-ne-zero n h);
            product = λ h. absurd (suc-ne-zero n h);
            none = λ h. (refl, refl, refl);
            small = (zero-le, zero-le, zero-le);
          }
