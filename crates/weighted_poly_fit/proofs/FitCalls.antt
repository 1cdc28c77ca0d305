-- The call of the fit in its parts: causes, reply and tables.
use Rattle.std.specs.Prelude.{◌≡◌, refl, Bool, true, false, ◌&&◌, cond, List, ℕ, zero, suc, ◌+◌, ◌*◌, ◌≤◌, ◌<◌, ltb, eqb, length, replicate}
use Rattle.std.proofs.Common.{sym, ap, ap₂, subst, ◌∙◌, mul-le-mul, le_trans, le_of_eq, lt_irrefl, arith}
use Rattle.std.proofs.Math.Bool.{false≢true}
use borrow.Author.Tests.{ltb-false, ltb-true, eqb-true}
use Rattle.meaning.specs.Tables.{at, tabulate}
use Rattle.meaning.specs.Boxes.{cells}
use Rattle.meaning.specs.Replies.{Reply, refused}
use Rattle.meaning.specs.Settings.{first}
use Rattle.meaning.specs.Calls.{reply, left}
use Rattle.meaning.specs.Fit.{columns, fit_system, degree_used_of, Fit, fit_rows, fit_columns_of, fit_settings_number, fit_lengths, fit_cause, fit_state, fit_succeeds, fit_answer, fit_number, fit_reply, fit_out, fit_matrix, fit_right}
use Rattle.answers.specs.declared.Refusal.{Refusal}
use Rattle.answers.specs.Said.{code}
use Rattle.answers.specs.Laws.{reply-code, first_code, left-code}
use Rattle.weighted_poly_fit.specs.Fitting.{Counted, Answered, Exact, Fitted, fit_with_of, lengths_cause}
use Rattle.weighted_poly_fit.specs.Fits.{Called}
use Rattle.theory.specs.ColumnCount.{columns-le-cells}

-- ---- sizes

-- a matrix of no more than 65,536 entries, with no more columns than rows, has no more than 256 columns
columns_few : (ds : List ℕ) (most rows cols : ℕ) → cols ≡ length (columns ds most) → cells ds ≤ rows → rows * cols ≤ 65536 → cols ≤ 256
columns_few ds most rows cols e h l = go (ltb 256 cols) refl
  where
    less : cols ≤ rows
    less = omega (arith, e, columns-le-cells ds most)

    go : (b : Bool) → ltb 256 cols ≡ b → cols ≤ 256
    go true p =
        let q : 257 ≤ cols = ltb-true 256 cols p in
        absurd (lt_irrefl 65536 (omega (arith, l, mul-le-mul {n₁ = 257} {m₁ = 257} (le_trans q less) q)))
    go false p = ltb-false 256 cols p

-- no degree of a box with one degree is above it
pub cube-low : (k d j : ℕ) → at (replicate k d) j < d + 1
cube-low zero d j = omega arith
cube-low (suc k) d zero = omega arith
cube-low (suc k) d (suc j) = cube-low k d j

-- ---- the parts

-- what the tests of the lengths say where they pass
pub exact : (f : Fit) {rows cols : ℕ} → Counted rows cols f.most f.degrees f.grid → fit_lengths f ≡ true → Exact f cols
exact f {rows} {cols} n e =
    let a = both _ (eqb (length f.out) (cells f.degrees)) e in
    let b = both _ (eqb (length f.right) (fit_rows f)) a.0 in
    let c = both _ (eqb (length f.matrix) (fit_rows f * length (fit_columns_of f))) b.0 in
    let d = both (eqb (length f.weights) (fit_rows f)) (eqb (length f.targets) (fit_rows f)) c.0 in
    let m : length f.matrix ≡ fit_rows f * length (fit_columns_of f) = eqb-true _ _ c.1 in
    record {
      weights_long = eqb-true _ _ d.0;
      targets_long = eqb-true _ _ d.1;
      matrix_long = m ∙ ap (fit_rows f *◌) (sym n.column_count);
      right_long = eqb-true _ _ b.1;
      out_long = eqb-true _ _ a.1;
      counted = n.column_count;
      columns_few = columns_few f.degrees f.most rows cols n.column_count n.box_small n.matrix_small;
      matrix_small = le_trans (le_of_eq (m ∙ sym (ap₂ ◌*◌ n.row_count n.column_count))) n.matrix_small;
      box_small = le_trans n.box_small n.rows_few;
    }
  where
    both : (a b : Bool) → a && b ≡ true → (a ≡ true) × (b ≡ true)
    both true b p = (refl, p)
    both false b p = absurd (false≢true p)

-- equal degrees
module _ (w most : ℕ) (weights targets matrix₀ right₀ out₀ : List ℕ) where
  abbrev fit : List ℕ → List ℕ → Fit
  fit ds gs = fit_with_of w ds gs most weights targets matrix₀ right₀ out₀

  pub fitted_degrees : {ds ds' gs gs' : List ℕ} → ds ≡ ds' → gs ≡ gs' → {matrix right out : List ℕ} {r : Reply}
      → Fitted (fit ds gs) (lengths_cause (fit ds gs)) matrix right out r → Fitted (fit ds' gs') (lengths_cause (fit ds' gs')) matrix right out r
  fitted_degrees {ds} {ds'} {gs} {gs'} d g {matrix} {right} {out} {r} k =
      subst (λ (l : List ℕ). Fitted (fit ds' l) (lengths_cause (fit ds' l)) matrix right out r) g
      (subst (λ (l : List ℕ). Fitted (fit l gs) (lengths_cause (fit l gs)) matrix right out r) d k)

-- the solved system is the fit's, and the scratch tables end as zeros
pub fitted_solved : (f : Fit) (rows cols : ℕ) (A : ℕ → ℕ → ℕ) (matrix right out : List ℕ) (r : Reply) → rows ≡ fit_rows f
    → cols ≡ length (fit_columns_of f) → A ≡ fit_system f.width f.grid (fit_columns_of f) f.weights f.targets
    → Answered f.width rows cols f.degrees (fit_columns_of f) A out r → matrix ≡ tabulate (length f.matrix) (λ n. 0)
    → right ≡ tabulate (length f.right) (λ n. 0) → Fitted f 0 matrix right out r
unfolding fit_succeeds fit_state fit_answer
fitted_solved f rows cols A matrix right out r e₁ e₂ e₃ h m s =
    record { says = k.says; leaves_out = k.leaves; leaves_matrix = m; leaves_right = s }
  where
    answered : ℕ → ℕ → (ℕ → ℕ → ℕ) → Type 0
    answered i j B = Answered f.width i j f.degrees (fit_columns_of f) B out r

    k : answered (fit_rows f) (length (fit_columns_of f)) (fit_system f.width f.grid (fit_columns_of f) f.weights f.targets)
    k =
        subst (answered (fit_rows f) (length (fit_columns_of f))) e₃
        (subst (λ (j : ℕ). answered (fit_rows f) j A) e₂ (subst (λ (i : ℕ). answered i cols A) e₁ h))

-- ---- the whole call

-- the parts of a fit that the settings leave
abbrev settled : Fit → Fit
settled f = fit_with_of f.width f.degrees f.grid f.most f.weights f.targets f.matrix f.right f.out

module _ (f : Fit) where
  -- the settings pass
  pub call_settled : fit_settings_number f ≡ 0 → (matrix right out : List ℕ) (r : Reply)
      → Fitted (settled f) (lengths_cause (settled f)) matrix right out r
      → Called f matrix right out r
  unfolding fit_reply fit_number fit_out fit_matrix fit_right fit_cause fit_succeeds fit_answer fit_state
  call_settled e matrix right out r h =
      let n : lengths_cause (settled f) ≡ fit_cause f = sym (ap (λ (k : ℕ). first k (lengths_cause (settled f))) e) in (
        h.says ∙ ap (λ (k : ℕ). reply (first k (cond (fit_succeeds f) 0 10)) (degree_used_of f.degrees (fit_answer f))) n,
        (
          h.leaves_out ∙ ap (λ (k : ℕ). left k (cond (fit_succeeds f) (fit_answer f) (tabulate (cells f.degrees) (λ n. 0))) f.out) n,
          h.leaves_matrix ∙ ap (λ (k : ℕ). left k (tabulate (length f.matrix) (λ n. 0)) f.matrix) n,
          h.leaves_right ∙ ap (λ (k : ℕ). left k (tabulate (length f.right) (λ n. 0)) f.right) n,
        ),
      )

  cause_turned : (r : Refusal) → fit_settings_number f ≡ code r → fit_cause f ≡ code r
  unfolding fit_cause
  cause_turned r e = first_code r (lengths_cause (settled f)) e

  -- the settings are turned down
  pub call_turned : (r : Refusal) → fit_settings_number f ≡ code r
      → Called f f.matrix f.right f.out (refused (code r))
  unfolding fit_reply fit_number fit_out fit_matrix fit_right
  call_turned r e =
      let n : fit_cause f ≡ code r = cause_turned r e in
      (reply-code r _ (first_code r _ n), (sym (left-code r _ f.out n), sym (left-code r _ f.matrix n), sym (left-code r _ f.right n)))
