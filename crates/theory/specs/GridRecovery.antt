-- Recovery of tables modulo m, for any family of cells: the answer is bounded, agrees where every difference passes, and is the only bounded box
-- that agrees; whatever box agrees makes every difference pass; two that agree have the same values everywhere; sums.
-- Everything but the search for a point where another box disagrees follows from `Fits`. Sums follow from agreement alone.
use Rattle.std.specs.Prelude.{◌≡◌, ℕ, ◌+◌, ◌%◌, ◌<◌, List}
use Rattle.std.proofs.Common.{sym, ap, ◌∙◌, mod-lt, mod-eq_of_lt}
use Rattle.std.proofs.Math.Nat.{mod-mod}
use Rattle.std.proofs.Math.Decide.{ℕ_discrete}
use Rattle.meaning.specs.Tables.{tabulate, at}
use Rattle.meaning.specs.Factorials.{falling}
use Rattle.meaning.specs.Boxes.{cells, digits, Within}
use Rattle.meaning.specs.Values.{value, Agrees, Bounded, box_total}
use Rattle.meaning.specs.Differences.{differences, grid}
use Rattle.theory.specs.Congruence.{Cong, cong_of_eq, cong_sym, cong_trans, cong_add, mod-cong}
use Rattle.theory.specs.Tables.{length-tabulate, at-tabulate, eq-tabulate}
use Rattle.theory.specs.Boxes.{digits-within, cell-digits}
use Rattle.theory.specs.Evaluation.{eval_cong, eval_add, value-eq-eval}
use Rattle.theory.specs.OneCell.{OneCell}
use Rattle.theory.specs.Widths.{factorials}
use Rattle.theory.specs.Recovery.{Fits, solution, eval-falling_cong, solution-fits, fits_solved, fits_same}
use Rattle.theory.specs.Values.{entry, within_of_cells, entry-tabulate, value-lt, value_cong_eval, value-eq_of_cong, agrees_iff}
use Rattle.theory.specs.Every.{Failing, failing}

-- a cell for each exponent list
abbrev pub Cells : ℕ → Type 0
Cells m = (es : List ℕ) → OneCell m (factorials es)

-- every difference of the table v passes
abbrev pub DifferencesPass : {m : ℕ} → Cells m → List ℕ → List ℕ → Type 0
DifferencesPass {m} o ds v = (n : ℕ) → n < cells ds → differences m ds (grid m ds v) (digits ds n) % (o (digits ds n)).g ≡ 0

-- the answer for the table v, at cell n and whole
abbrev pub solution_at : {m : ℕ} → Cells m → List ℕ → List ℕ → ℕ → ℕ
solution_at {m} o ds v n = solution (o (digits ds n)) (differences m ds (grid m ds v) (digits ds n))

abbrev pub solutions : {m : ℕ} → Cells m → List ℕ → List ℕ → List ℕ
solutions o ds v = tabulate (cells ds) (solution_at o ds v)

-- the sum of two tables modulo m
abbrev pub table_total : ℕ → List ℕ → List ℕ → List ℕ → List ℕ
table_total m ds u v = tabulate (cells ds) (λ n. (at u n + at v n) % m)

module _ {m : ℕ} (pos : 0 < m) (o : Cells m) (ds : List ℕ) where
  -- the answer at an exponent list
  entry-solutions : (v es : List ℕ) → Within ds es → entry ds (solutions o ds v) es ≡ solution (o es) (differences m ds (grid m ds v) es)
  entry-solutions v es w = entry-tabulate ds (λ es. solution (o es) (differences m ds (grid m ds v) es)) es w

  -- the answer is bounded
  pub solutions_bounded : (v : List ℕ) → Bounded (λ es. (o es).h) ds (solutions o ds v)
  solutions_bounded v =
      record {
        whole = length-tabulate (cells ds) _;
        below = λ n p. rw (at-tabulate (cells ds) (solution_at o ds v) n p)
            (mod-lt _ (o (digits ds n)).h_pos);
      }

  -- where every difference passes, the answer agrees
  pub solutions_agree : (v : List ℕ) → DifferencesPass o ds v → Agrees m ds (solutions o ds v) v
  solutions_agree v pass =
      (agrees_iff m ds (solutions o ds v) v).1
      (record {
        fits = λ xs w.
            cong_trans (eval_cong falling ds xs (λ es u. cong_of_eq m (entry-solutions v es u))) (fit.fits xs w);
      })
    where
      fit : Fits m ds (λ es. solution (o es) (differences m ds (grid m ds v) es)) (grid m ds v)
      fit =
          solution-fits pos o ds (grid m ds v)
          (within_of_cells (λ es n. differences m ds (grid m ds v) es % (o es).g ≡ 0) ds pass)

  module _ (c v : List ℕ) (a : Agrees m ds c v) where
    -- whatever box agrees, every difference passes
    pub passes_of_agrees : DifferencesPass o ds v
    passes_of_agrees n p = (fits_solved pos o ds (entry ds c) (grid m ds v) (digits ds n) ((agrees_iff m ds c v).0 a) (digits-within ds n)).0

    -- and its coefficients are those of the answer, modulo what is left of m in each cell
    pub agrees_solved : (n : ℕ) → n < cells ds → at c n % (o (digits ds n)).h ≡ at (solutions o ds v) n
    agrees_solved n p =
        ap (λ (i : ℕ). at c i % (o (digits ds n)).h) (sym (cell-digits ds n p))
        ∙ (fits_solved pos o ds (entry ds c) (grid m ds v) (digits ds n) ((agrees_iff m ds c v).0 a) (digits-within ds n)).1
        ∙ sym (at-tabulate (cells ds) (solution_at o ds v) n p)

    -- so the answer is the only bounded box that agrees
    pub bounded_unique : Bounded (λ es. (o es).h) ds c → c ≡ solutions o ds v
    bounded_unique b =
        eq-tabulate c (cells ds) _ b.whole
        (λ n p. sym (mod-eq_of_lt (b.below n p)) ∙ agrees_solved n p
        ∙ at-tabulate (cells ds) (solution_at o ds v) n p)

    -- another box that agrees has the same values everywhere
    pub agrees_same : (d xs : List ℕ) → Agrees m ds d v → value m ds c xs ≡ value m ds d xs
    agrees_same d xs b =
        value-eq_of_cong m ds c d xs xs
        (fits_same pos o ds (entry ds c) (entry ds d) (grid m ds v) xs ((agrees_iff m ds c v).0 a) ((agrees_iff m ds d v).0 b))

  -- every other bounded box disagrees at some grid point
  pub bounded_disagrees : (c v : List ℕ) → Bounded (λ es. (o es).h) ds c → (c ≡ solutions o ds v → ⊥)
      → Failing (cells ds) (λ n. value m ds c (digits ds n) ≡ at v n % m)
  unfolding Agrees
  bounded_disagrees c v b ne =
      failing (cells ds) (λ n. value m ds c (digits ds n) ≡ at v n % m) (λ n. ℕ_discrete (value m ds c (digits ds n)) (at v n % m))
      (λ a. ne (bounded_unique c v a b))

  -- bounded boxes with the same values on the grid are equal
  pub bounded_eq_of_values : (c d : List ℕ) → Bounded (λ es. (o es).h) ds c → Bounded (λ es. (o es).h) ds d
      → ((n : ℕ) → n < cells ds → value m ds c (digits ds n) ≡ value m ds d (digits ds n)) → c ≡ d
  unfolding Agrees
  bounded_eq_of_values c d b e same =
      bounded_unique c v (λ n p. same n p ∙ own n p) b ∙ sym (bounded_unique d v own e)
    where
      v : List ℕ
      v = tabulate (cells ds) (λ n. value m ds d (digits ds n))

      own : (n : ℕ) → n < cells ds → value m ds d (digits ds n) ≡ at v n % m
      own n p =
          sym (ap (◌% m) (at-tabulate (cells ds) (λ n. value m ds d (digits ds n)) n p) ∙ mod-eq_of_lt (value-lt ds d (digits ds n) pos))

  -- the value depends on each coefficient modulo what is left of m in its cell only
  pub value_cong_bounds : (c d xs : List ℕ) → ((n : ℕ) → n < cells ds → Cong (o (digits ds n)).h (at c n) (at d n))
      → value m ds c xs ≡ value m ds d xs
  value_cong_bounds c d xs h =
      value-eq_of_cong m ds c d xs xs
      (eval-falling_cong pos o ds (entry ds c) (entry ds d) xs (within_of_cells (λ es n. Cong (o es).h (at c n) (at d n)) ds h))

  -- the value of a sum of boxes is the sum of the values
  pub value-box_total : (c d xs : List ℕ) → value m ds (box_total (λ es. (o es).h) ds c d) xs ≡ (value m ds c xs + value m ds d xs) % m
  unfolding box_total
  value-box_total c d xs =
      value-eq-eval m ds total xs
      ∙ (cong_trans
      (eval-falling_cong pos o ds (entry ds total) (λ es. entry ds c es + entry ds d es) xs
      (within_of_cells (λ es n. Cong (o es).h (at total n) (at c n + at d n)) ds one))
      (cong_trans (cong_of_eq m (eval_add falling ds (entry ds c) (entry ds d) xs))
      (cong_sym (cong_add (value_cong_eval m ds c xs) (value_cong_eval m ds d xs))))
      ).same
    where
      total : List ℕ
      total = box_total (λ es. (o es).h) ds c d

      one : (n : ℕ) → n < cells ds → Cong (o (digits ds n)).h (at total n) (at c n + at d n)
      one n p =
          cong_trans (cong_of_eq _ (at-tabulate (cells ds) (λ n. (at c n + at d n) % (o (digits ds n)).h) n p))
          (mod-cong (o (digits ds n)).h (at c n + at d n))

  -- a sum of boxes is bounded
  pub box_total_bounded : (c d : List ℕ) → Bounded (λ es. (o es).h) ds (box_total (λ es. (o es).h) ds c d)
  unfolding box_total
  box_total_bounded c d =
      record {
        whole = length-tabulate (cells ds) _;
        below = λ n p.
            rw (at-tabulate (cells ds) (λ n. (at c n + at d n) % (o (digits ds n)).h) n p) (mod-lt (at c n + at d n) (o (digits ds n)).h_pos);
      }

  -- a sum of boxes agrees with the sum of the tables with which they agree
  pub box_total_agrees : (c d u v : List ℕ) → Agrees m ds c u → Agrees m ds d v
      → Agrees m ds (box_total (λ es. (o es).h) ds c d) (table_total m ds u v)
  unfolding Agrees
  box_total_agrees c d u v a b n p =
      value-box_total c d (digits ds n)
      ∙ (cong_add (record { same = ap (◌% m) (a n p) ∙ mod-mod (at u n) m }) (record { same = ap (◌% m) (b n p) ∙ mod-mod (at v n) m })).same
      ∙ sym (ap (◌% m) (at-tabulate (cells ds) (λ n. (at u n + at v n) % m) n p) ∙ mod-mod (at u n + at v n) m)

  -- tables whose differences pass have a sum whose differences pass, and its answer is the sum of the answers
  module _ (u v : List ℕ) (p : DifferencesPass o ds u) (q : DifferencesPass o ds v) where
    total_agrees : Agrees m ds (box_total (λ es. (o es).h) ds (solutions o ds u) (solutions o ds v)) (table_total m ds u v)
    total_agrees = box_total_agrees (solutions o ds u) (solutions o ds v) u v (solutions_agree u p) (solutions_agree v q)

    pub passes-total : DifferencesPass o ds (table_total m ds u v)
    passes-total = passes_of_agrees (box_total (λ es. (o es).h) ds (solutions o ds u) (solutions o ds v)) (table_total m ds u v) total_agrees

    pub solutions-total : solutions o ds (table_total m ds u v) ≡ box_total (λ es. (o es).h) ds (solutions o ds u) (solutions o ds v)
    solutions-total =
        sym
        (bounded_unique (box_total (λ es. (o es).h) ds (solutions o ds u) (solutions o ds v)) (table_total m ds u v) total_agrees
        (box_total_bounded (solutions o ds u) (solutions o ds v)))
