-- What the fit on tables of bytes answers and leaves, in each of its cases.
use Rattle.std.proofs.Common.{take, ◌≡◌, refl, sym, ◌∙◌, ap, ap₂, subst, Bool, true, false, ◌&&◌, cond, List, ℕ, pred, ◌+◌, ◌*◌, ◌≤◌, ◌<◌, min, suc-ne-zero, le_trans, le_of_eq, le-mul_of_pos_right, arith, ltb, eqb, length, Bor, eq-eqb, eqb-true, lt-ltb, le-ltb, ltb-true, Result, Ok, Err}
use Rattle.std.proofs.Math.Nat.{min-eq_left}
use Rattle.meaning.specs.Tables.{tabulate}
use Rattle.meaning.specs.Boxes.{cells}
use Rattle.meaning.specs.Replies.{Reply, refused}
use Rattle.meaning.specs.Settings.{byte_limit, cube, first}
use Rattle.meaning.specs.Calls.{reply, left}
use Rattle.meaning.specs.Fit.{Fit, fit_of, fit_rows, fit_columns_of, fit_settings_number, fit_cause, fit_number, fit_reply, fit_out, fit_state, fit_succeeds, fit_answer, degree_used_of}
use Rattle.theory.specs.FitSizes.{cells-cube-le, columns_pos}
use Rattle.answers.specs.declared.Refusal.{Refusal}
use Rattle.answers.specs.Said.{code, said}
use Rattle.answers.specs.Laws.{code-suc, number-accepted, value-accepted, number-refused, reply-code, first_code, left-code}
use Rattle.settings.specs.declared.Settings.{Settings}
use Rattle.settings.specs.Forms.{degrees_of}
use Rattle.room.specs.declared.sizes.FitRoom.{FitRoom}
use Rattle.room.specs.declared.sizes.FitSettings.{FitSettings}
use Rattle.room.specs.Sizes.{fit_settings, fit_asked, answer_of, columns_reply}
use Rattle.room.specs.SizeLaws.{size_parts}
use Rattle.weighted_poly_fit.specs.Fits.{Fits}
use Rattle.demand3.specs.Also.{also₂}
use Rattle.byte_calls.specs.declared.checks.ByteSettings.{ByteSettings}
use Rattle.byte_calls.specs.declared.fit.ByteFitSettings.{ByteFitSettings}
use Rattle.byte_calls.specs.Bytes.{decoded, encoded}
use Rattle.byte_calls.specs.Forms.{zeros, byte_degrees, fit_settings_on, byte_grid, fit_held_by, fit_lent}
use Rattle.byte_calls.specs.ByteLaws.{length-decoded}
use Rattle.byte_calls.specs.Calls.{holds, fit_bytes_cause, fit_bytes_reply, fit_bytes_left}
use Rattle.byte_calls.specs.TableLaws.{Held, Boxed, before, boxed, unboxed, length-zeros}
use Rattle.byte_calls.specs.FitDemands.{fits_of_bytes}

-- the support's bytes and the settings of the grid pass, or are turned down
module _ (s : ByteFitSettings) {g : ByteSettings} (is : g ≡ byte_grid s) {answer : Result ℕ Refusal}
    (says : said answer ≡ reply (before false g (byte_degrees g)) (cells (byte_degrees g))) where
  pub grid_boxed : {n : ℕ} → answer ≡ Ok n → Boxed false (byte_grid s) (byte_degrees (byte_grid s)) n
  grid_boxed {n} e = subst (λ (g : ByteSettings). Boxed false g (byte_degrees g) n) is (boxed false g (byte_degrees g) says e)

  pub grid_unboxed : {r : Refusal} → answer ≡ Err r → before false (byte_grid s) (byte_degrees (byte_grid s)) ≡ code r
  grid_unboxed e = sym (ap (λ (g : ByteSettings). before false g (byte_degrees g)) is) ∙ unboxed false g (byte_degrees g) says e

-- the places hold the support's indices
pub grid_held : (s : ByteFitSettings) (places : List ℕ) {g : ByteSettings} → g ≡ byte_grid s
    → (Held g.support.now g.count → take g.count places ≡ decoded g.support.now) → Held s.support.now s.count → take s.count places ≡ decoded s.support.now
grid_held s places is leaves h = (rw is at leaves) h

module _ (s : ByteFitSettings) (weights targets out : List ℕ) where
  abbrev asked : Fit
  asked = fit_held_by s weights targets

  -- of which the room looks at the settings alone
  abbrev sizes_asked : Fit
  sizes_asked = fit_settings s.total s.bitwidth (decoded s.support.now) s.max_degree s.grid_degree

  abbrev entries : ℕ
  entries = fit_rows asked * length (fit_columns_of asked)

  abbrev lengths : Bool
  lengths = holds weights (fit_rows asked) && holds targets (fit_rows asked) && holds out (cells asked.degrees)

  -- the call on the tables that the bytes hold, with zeros lent
  abbrev fit_zeros : ℕ → ℕ → ℕ → Fit
  fit_zeros size rows count =
      fit_of s.total s.bitwidth (decoded s.support.now) s.max_degree s.grid_degree (decoded weights) (decoded targets) (zeros size) (zeros rows) (zeros count)

  -- what is returned and left, and what they promise
  abbrev Said : Reply → List ℕ → Type 0
  Said r t =
      (r ≡ fit_bytes_reply s.count s.support.now weights targets out asked)
      × ((t ≡ fit_bytes_left s.count s.support.now weights targets out asked)
      × Fits s.bitwidth (cube (decoded s.support.now) (min s.max_degree s.grid_degree)) (cube (decoded s.support.now) s.grid_degree) s.max_degree
      (decoded weights) (decoded targets) r.number r.value (decoded t))

  promised : {r : Reply} {t : List ℕ} → (r ≡ fit_bytes_reply s.count s.support.now weights targets out asked)
      × (t ≡ fit_bytes_left s.count s.support.now weights targets out asked) → Said r t
  promised = also₂ (fits_of_bytes s.count s.total s.bitwidth s.support.now s.max_degree s.grid_degree weights targets out)

  turned : (r : Refusal) → fit_bytes_cause s.count s.support.now weights targets out asked ≡ code r → Said (refused (code r)) out
  unfolding fit_bytes_reply fit_bytes_left
  turned r e = promised (reply-code r _ (first_code r _ e), sym (left-code r _ _ e))

  -- the settings are turned down
  pub fit_turned : (r : Refusal) → before false (byte_grid s) (byte_degrees (byte_grid s)) ≡ code r → Said (refused (code r)) out
  unfolding fit_bytes_cause
  fit_turned r e = turned r (first_code r _ e)

  -- they pass, and the rows, the entries and the cells are counted, of a matrix that is small enough: the tables that are lent on those settings
  pub record Counted (on : FitSettings) (needs : FitRoom) (count : ℕ) : Type 0 where
    pub points : ℕ
    pub boxed : Boxed false (byte_grid s) (byte_degrees (byte_grid s)) points
    pub row_count : needs.rows ≡ fit_rows asked
    pub entry_count : needs.entries ≡ entries
    pub cell_count : count ≡ cells asked.degrees
    pub small : needs.entries ≤ byte_limit
    pub lent : fit_lent on weights targets needs.entries needs.rows count ≡ fit_zeros needs.entries needs.rows count

  module _ {rows : ℕ} (b : Boxed false (byte_grid s) (byte_degrees (byte_grid s)) rows) where
    -- what is left where they pass
    cause : (x : Bool) → ltb byte_limit entries ≡ x → (y : Bool) → lengths ≡ y
        → fit_bytes_cause s.count s.support.now weights targets out asked ≡ first (cond x 8 0) (cond y 0 9)
    unfolding fit_bytes_cause
    cause x e y q = ap₂ first b.number (ap₂ (λ (x y : Bool). first (cond x 8 0) (cond y 0 9)) e q)

    -- the cells of the answer's box are no more than the rows, and these no more than the entries, since there is a column
    box_le_rows : cells asked.degrees ≤ fit_rows asked
    box_le_rows = cells-cube-le (length (decoded s.support.now)) s.max_degree s.grid_degree

    rows_le : fit_rows asked ≤ entries
    rows_le = le-mul_of_pos_right (fit_rows asked) (columns_pos asked.degrees s.max_degree)

    few : length (decoded s.support.now) ≤ 20
    few = le_trans (le_of_eq (length-decoded s.support.now s.count b.held.bytes)) b.held.few

    -- the settings on the indices that the support's bytes hold
    module _ {on : FitSettings} {indices : Bor (List ℕ)} (is : on ≡ fit_settings_on s indices) (held : indices.now ≡ decoded s.support.now) where
      sized : columns_reply (fit_asked on) ≡ columns_reply sizes_asked
      sized =
          ap (λ (o : FitSettings). columns_reply (fit_asked o)) is
          ∙ ap (λ (t : List ℕ). columns_reply (fit_settings s.total s.bitwidth t s.max_degree s.grid_degree)) held

      -- the degrees of the answer's box
      degrees_held : {a : Settings} {ds : List ℕ} → a ≡ answer_of on → (length a.support.now ≤ 20 → ds ≡ degrees_of a) → ds ≡ asked.degrees
      degrees_held {a} {ds} e all =
          let box : List ℕ → List ℕ = λ t. cube t (min s.max_degree s.grid_degree) in
          let lent = subst (λ (a : Settings). length a.support.now ≤ 20 → ds ≡ degrees_of a) (e ∙ ap answer_of is) all in
          lent (le_trans (le_of_eq (ap length held)) few) ∙ ap box held

      -- the columns as the fit counts them from the settings alone
      module _ {answer : Result ℕ Refusal} (says : said answer ≡ columns_reply (fit_asked on)) where
        -- it says 8 where the matrix has more than 65,536 entries
        pub fit_wide : {r : Refusal} → answer ≡ Err r → Said (refused (code r)) out
        fit_wide {r} e = by_cases (ltb 65536 entries) refl
          where
            told : cond (ltb 65536 entries) 8 0 ≡ code r
            told =
                sym (ap (λ (n : ℕ). first n (cond (ltb 65536 entries) 8 0)) b.settles.passes)
                ∙ number-refused r (fit_settings_number sizes_asked) (length (fit_columns_of asked)) (sym (ap said e) ∙ says ∙ sized)

            by_cases : (x : Bool) → ltb 65536 entries ≡ x → Said (refused (code r)) out
            by_cases true q =
                let large : byte_limit < entries = omega (arith, ltb-true 65536 entries q) in
                turned r (cause true (lt-ltb byte_limit entries large) lengths refl ∙ sym (ap (λ (x : Bool). cond x 8 0) q) ∙ told)
            by_cases false q = absurd (suc-ne-zero (pred (code r)) (sym (code-suc r) ∙ sym told ∙ ap (λ (x : Bool). cond x 8 0) q))

        -- and counts them else
        pub fit_sized_lem : {columns : ℕ} → answer ≡ Ok columns → (columns ≡ length (fit_columns_of asked)) × (rows * columns ≤ 65536)
        fit_sized_lem e =
            let told = sym (ap said e) ∙ says ∙ sized in
            let number = fit_settings_number sizes_asked in
            let counted = value-accepted number (length (fit_columns_of asked)) told in (
              counted,
              rw (ap₂ ◌*◌ b.settles.counted counted) (size_parts sizes_asked (number-accepted number (length (fit_columns_of asked)) told)).1,
            )

        entry_count : {columns : ℕ} → answer ≡ Ok columns → rows * columns ≡ entries
        entry_count e = ap₂ ◌*◌ b.settles.counted (fit_sized_lem e).0

        -- a matrix that is too large
        pub fit_large_lem : {columns : ℕ} → answer ≡ Ok columns → byte_limit < rows * columns → Said (refused 8) out
        fit_large_lem e h = turned Refusal.TooLarge (cause true (lt-ltb byte_limit entries (le_trans h (le_of_eq (entry_count e)))) lengths refl)

        pub counted : {columns : ℕ} → answer ≡ Ok columns → rows * columns ≤ byte_limit → {a : Settings} {ds ls : List ℕ} {count : ℕ}
            → a ≡ answer_of on → (length a.support.now ≤ 20 → ds ≡ degrees_of a) → ls ≡ ds → count ≡ min (cells ls) (byte_limit + 1)
            → Counted on (record { rows = rows; columns = columns; entries = rows * columns }) count
        counted {columns} e small {count = count} is_answer all same counts =
            let box = same ∙ degrees_held is_answer all in
            record {
              points = rows;
              boxed = b;
              row_count = b.settles.counted;
              entry_count = entry_count e;
              cell_count =
                  counts ∙ ap (λ (l : List ℕ). min (cells l) (byte_limit + 1)) box
                  ∙ min-eq_left (omega (arith, box_le_rows, rows_le, entry_count e, small));
              small = small;
              lent =
                  ap (λ (o : FitSettings). fit_lent o weights targets (rows * columns) rows count) is
                  ∙ ap (λ (t : List ℕ). fit_of s.total s.bitwidth t s.max_degree s.grid_degree (decoded weights) (decoded targets) (zeros (rows * columns))
                  (zeros rows) (zeros count)) held;
            }

  module _ {on : FitSettings} {needs : FitRoom} {count : ℕ} (n : Counted on needs count) where
    small_matrix : entries ≤ byte_limit
    small_matrix = le_trans (le_of_eq (sym n.entry_count)) n.small

    -- what is asked of each table's room
    pub fit_fits : (needs.rows ≤ needs.entries) × (count ≤ needs.entries)
    fit_fits = (
      omega (arith, n.row_count, n.entry_count, rows_le n.boxed),
      omega (arith, n.cell_count, box_le_rows n.boxed, rows_le n.boxed, n.entry_count),
    )

    abbrev exact : Bool
    exact = holds weights needs.rows && holds targets needs.rows && holds out count

    tested : exact ≡ lengths
    tested = ap₂ (λ (i j : ℕ). holds weights i && holds targets i && holds out j) n.row_count n.cell_count

    -- a wrong length
    pub fit_uneven : exact ≡ false → Said (refused 9) out
    fit_uneven e =
        turned Refusal.WrongLength (cause n.boxed false (le-ltb byte_limit entries small_matrix) false (sym tested ∙ e))

    -- the call on the tables
    module _ (hw : holds weights needs.rows ≡ true) (ht : holds targets needs.rows ≡ true) (ho : holds out count ≡ true) where
      long : (bytes : List ℕ) → holds bytes needs.rows ≡ true → eqb (length (decoded bytes)) (fit_rows asked) ≡ true
      long bytes e = eq-eqb _ _ (length-decoded bytes needs.rows (eqb-true _ _ e) ∙ n.row_count)

      lent-cause : fit_cause (fit_zeros needs.entries needs.rows count) ≡ 0
      unfolding fit_cause
      lent-cause =
          ap₂ first (ap₂ first n.boxed.settles.passes (ap (λ (x : Bool). cond x 8 0) (le-ltb 65536 entries (omega (arith, small_matrix)))))
          (ap (λ (y : Bool). cond y 0 9)
          (ap₂ ◌&&◌ (ap₂ ◌&&◌ (ap₂ ◌&&◌ (ap₂ ◌&&◌ (long weights hw) (long targets ht)) (eq-eqb _ _ (length-zeros _ ∙ n.entry_count)))
          (eq-eqb _ _ (length-zeros _ ∙ n.row_count))) (eq-eqb _ _ (length-zeros _ ∙ n.cell_count))))

      held-cause : fit_bytes_cause s.count s.support.now weights targets out asked ≡ 0
      held-cause = cause n.boxed false (le-ltb byte_limit entries small_matrix) true (sym tested ∙ ap₂ ◌&&◌ (ap₂ ◌&&◌ hw ht) ho)

      pub fit_done : {r : Reply} {t : List ℕ} → r ≡ fit_reply (fit_lent on weights targets needs.entries needs.rows count)
          → t ≡ encoded (fit_out (fit_lent on weights targets needs.entries needs.rows count)) → Said r t
      unfolding fit_reply fit_number fit_out fit_bytes_reply fit_bytes_left fit_succeeds fit_answer fit_state
      fit_done p q =
          let said = degree_used_of asked.degrees (fit_answer asked) in
          let ends : ℕ = cond (fit_succeeds asked) 0 10 in
          let done = cond (fit_succeeds asked) (fit_answer asked) (tabulate (cells asked.degrees) (λ n. 0)) in
          promised (
            p ∙ ap fit_reply n.lent ∙ ap (λ (n : ℕ). reply (first n ends) said) (lent-cause ∙ sym held-cause),
            q
                ∙ ap (λ (f : Fit). encoded (fit_out f)) n.lent
                ∙ ap (λ (n : ℕ). encoded (left n done (zeros count))) lent-cause
                ∙ ap (λ (n : ℕ). left n (encoded done) out) (sym held-cause),
          )
