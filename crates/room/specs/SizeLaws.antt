-- What the room of a fit tells of its settings and its counts.
use Rattle.std.specs.Prelude.{◌≡◌, Bool, true, false, cond, ltb, List, length, refl, ℕ, zero, suc, ◌*◌, ◌≤◌}
use Rattle.std.proofs.Common.{sym, ap, suc-ne-zero, ltb-false}
use Rattle.meaning.specs.Settings.{table_limit, fits_width, settings_number, first}
use Rattle.meaning.specs.Fit.{Fit, fit_rows, fit_columns_of, fit_settings_number}
use Rattle.meaning.specs.Counts.{FitRoom, fit_room_of, fit_room_lem}
use Rattle.settings.specs.declared.Settings.{Settings}
use Rattle.settings.specs.Forms.{degrees_of}
use Rattle.answers.specs.declared.Refusal.{Refusal}
use Rattle.answers.specs.Said.{code}
use Rattle.room.specs.Sizes.{fit_room_told}

module _ (f : Fit) where
  abbrev pub grid_number : ℕ
  grid_number = settings_number false f.variables (fits_width f.width) f.support f.grid

  abbrev pub matrix_entries : ℕ
  matrix_entries = fit_rows f * length (fit_columns_of f)

  -- settings that pass: those of the grid do, and the matrix is small enough
  pub size_parts : fit_settings_number f ≡ 0 → (grid_number ≡ 0) × (matrix_entries ≤ table_limit)
  size_parts e = go grid_number (ltb table_limit matrix_entries) refl e
    where
      go : (n : ℕ) (b : Bool) → ltb table_limit matrix_entries ≡ b → first n (cond b 8 0) ≡ 0 → (n ≡ 0) × (matrix_entries ≤ table_limit)
      go zero false q h = (refl, ltb-false table_limit matrix_entries q)
      go zero true q h = absurd (suc-ne-zero 7 h)
      go (suc n) b q h = absurd (suc-ne-zero n h)

  -- an answer that says the room
  pub told_turned : (r : Refusal) → fit_room_told (code r) 0 0 0 ≡ fit_room_lem f → fit_settings_number f ≡ code r
  unfolding fit_room_lem
  told_turned r e = sym (ap (λ (x : FitRoom). x.number) e)

  pub record Told (r c e : ℕ) : Type 0 where
    pub passes : fit_settings_number f ≡ 0
    pub row_count : r ≡ fit_rows f
    pub column_count : c ≡ length (fit_columns_of f)
    pub entry_count : e ≡ matrix_entries

  pub told_counts : {r c e : ℕ} → fit_room_told 0 r c e ≡ fit_room_lem f → Told r c e
  unfolding fit_room_lem
  told_counts {r} {c} {e} q = go (fit_settings_number f) refl q
    where
      go : (n : ℕ) → fit_settings_number f ≡ n
          → fit_room_told 0 r c e ≡ fit_room_of n (fit_rows f) (length (fit_columns_of f)) → Told r c e
      go zero p h =
          record {
            passes = p;
            row_count = ap (λ (x : FitRoom). x.row_count) h;
            column_count = ap (λ (x : FitRoom). x.column_count) h;
            entry_count = ap (λ (x : FitRoom). x.entry_count) h;
          }
      go (suc n) p h = absurd (suc-ne-zero n (sym (ap (λ (x : FitRoom). x.number) h)))

-- the degrees of settings that are those of g
pub lent_degrees : {a g : Settings} {ds : List ℕ} → a ≡ g → (length a.support.now ≤ 20 → ds ≡ degrees_of a) → length g.support.now ≤ 20
    → ds ≡ degrees_of g
lent_degrees e all = rw (← e) all
