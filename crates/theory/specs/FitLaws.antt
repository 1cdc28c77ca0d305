-- The weighted fit: an accepted fit, as the box that is returned, times the weight is the target at every grid point, modulo 2^w.
-- A sum over the columns is a sum over the cells of the box; reducing a coefficient modulo its bound changes no value; and the elimination's answer
-- satisfies every row.
use Rattle.std.specs.Prelude.{◌≡◌, Bool, true, length, get_or, cond, ℕ, ◌*◌, ◌%◌, ◌^◌, ◌<◌, List, []}
use Rattle.std.proofs.Common.{sym, ◌∙◌, mod-lt, le_refl, mul_assoc, lt-ltb, le-ltb, pow_pos, ap}
use Rattle.meaning.specs.Tables.{tabulate, at}
use Rattle.meaning.specs.Sums.{sum}
use Rattle.meaning.specs.Factorials.{falling}
use Rattle.meaning.specs.Boxes.{cells, digits}
use Rattle.meaning.specs.Values.{product, value, bound, Normal}
use Rattle.meaning.specs.Calls.{left}
use Rattle.meaning.specs.Fit.{total, columns, fit_system, value_of, fit_box_of, Fit, fit_rows, fit_columns_of, fit_cause, fit_state, fit_succeeds, fit_answer, fit_number, fit_out}
use Rattle.theory.specs.Congruence.{Cong, cong_of_eq, cong_sym, cong_trans, cong_mul-left, cong_mul_right, mod-cong}
use Rattle.theory.specs.Sums.{sum_eq, sum_cong, sum-mul-left}
use Rattle.theory.specs.Tables.{at-tabulate, length-tabulate}
use Rattle.theory.specs.Widths.{bound_pos}
use Rattle.theory.specs.DemandThree.{value_cong_normal}
use Rattle.theory.specs.LinearSystems.{Solves}
use Rattle.theory.specs.BackSubstitution.{substituted-solves}
use Rattle.theory.specs.AcceptedCalls.{first-zero}
use Rattle.theory.specs.SolverLaws.{passed, holds_of_true}
use Rattle.theory.specs.Columns.{in-columns-iff, columns_ordered}
use Rattle.theory.specs.ColumnValues.{columns-sum}
use Rattle.theory.specs.FitBoxes.{fit_box_of_other}

-- ---- the system

-- its entries are below 2^w
pub fit_system-lt : (w : ℕ) (gs : List ℕ) (fs : List (List ℕ)) (weights targets : List ℕ) (i j : ℕ) → fit_system w gs fs weights targets i j < 2 ^ w
unfolding fit_system
fit_system-lt w gs fs weights targets i j = mod-lt _ (pow_pos w)

-- the entry of a column, and the right side
pub fit_system-entry : (w : ℕ) (gs : List ℕ) (fs : List (List ℕ)) (weights targets : List ℕ) (i c : ℕ) → c < length fs
    → Cong (2 ^ w) (fit_system w gs fs weights targets i c) (at weights i * product falling (length gs) (digits gs i) (get_or fs c []))
unfolding fit_system
fit_system-entry w gs fs weights targets i c h =
    cong_trans (mod-cong (2 ^ w) _)
    (cong_of_eq (2 ^ w)
    (ap (λ (b : Bool). cond b (at weights i * product falling (length gs) (digits gs i) (get_or fs c [])) (at targets i)) (lt-ltb c (length fs) h)))

pub fit_system_right : (w : ℕ) (gs : List ℕ) (fs : List (List ℕ)) (weights targets : List ℕ) (i : ℕ)
    → Cong (2 ^ w) (fit_system w gs fs weights targets i (length fs)) (at targets i)
unfolding fit_system
fit_system_right w gs fs weights targets i =
    let n = length fs in
    cong_trans (mod-cong (2 ^ w) _)
    (cong_of_eq (2 ^ w)
    (ap (λ (b : Bool). cond b (at weights i * product falling (length gs) (digits gs i) (get_or fs n [])) (at targets i)) (le-ltb n n (le_refl n))))

-- ---- the box

module _ (w : ℕ) (ds : List ℕ) (fs : List (List ℕ)) (x : ℕ → ℕ) where
  -- the box of the answer is a normal form
  pub fit_box_of_normal : Normal w ds (fit_box_of w ds fs x)
  unfolding fit_box_of
  fit_box_of_normal =
      let f : ℕ → ℕ = λ n. value_of fs x (digits ds n) % bound w (digits ds n) in
      record {
        whole = length-tabulate (cells ds) f;
        below = λ n h. rw (at-tabulate (cells ds) f n h) (mod-lt _ (bound_pos w (digits ds n)));
      }

-- its value at a point is the sum over the columns of the products of falling factorials times the columns' values
pub fit_box_of-value : (w : ℕ) (ds : List ℕ) (most : ℕ) (x : ℕ → ℕ) (xs : List ℕ)
    → Cong (2 ^ w) (value (2 ^ w) ds (fit_box_of w ds (columns ds most) x) xs)
    (sum (length (columns ds most)) (λ c. product falling (length ds) xs (get_or (columns ds most) c []) * x c))
unfolding fit_box_of value
fit_box_of-value w ds most x xs =
    cong_trans (cong_of_eq (2 ^ w) (value_cong_normal w ds (tabulate (cells ds) reduced) (tabulate (cells ds) raw) xs same))
    (cong_trans (mod-cong (2 ^ w) _)
    (cong_of_eq (2 ^ w)
    (sum_eq (cells ds) (λ n p. ap (product falling (length ds) xs (digits ds n) *◌) (at-tabulate (cells ds) raw n p))
    ∙ columns-sum ds (product falling (length ds) xs) (columns_ordered ds most) (λ g i. ((in-columns-iff ds most g).0 i).0) x)))
  where
    raw : ℕ → ℕ
    raw n = value_of (columns ds most) x (digits ds n)

    reduced : ℕ → ℕ
    reduced n = raw n % bound w (digits ds n)

    same : (n : ℕ) → n < cells ds → Cong (bound w (digits ds n)) (at (tabulate (cells ds) reduced) n) (at (tabulate (cells ds) raw) n)
    same n h =
        cong_trans (cong_of_eq _ (at-tabulate (cells ds) reduced n h))
        (cong_trans (mod-cong _ (raw n)) (cong_of_eq _ (sym (at-tabulate (cells ds) raw n h))))

-- where x solves the system, the box times the weight is the target
pub fit_box_of-fits : (w : ℕ) (ds gs : List ℕ) (most : ℕ) (weights targets : List ℕ) (x : ℕ → ℕ) → length gs ≡ length ds
    → Solves (2 ^ w) (cells gs) (length (columns ds most)) (fit_system w gs (columns ds most) weights targets) x
    → (n : ℕ) → n < cells gs → Cong (2 ^ w) (at weights n * value (2 ^ w) ds (fit_box_of w ds (columns ds most) x) (digits gs n)) (at targets n)
fit_box_of-fits w ds gs most weights targets x same s n h =
    cong_trans (cong_mul-left (at weights n) (fit_box_of-value w ds most x xs))
    (cong_trans (cong_of_eq (2 ^ w) (sym (sum-mul-left count (at weights n) (λ c. product falling (length ds) xs (get_or fs c []) * x c))))
    (cong_trans
    (sum_cong count (λ c p.
    cong_trans (cong_of_eq (2 ^ w) (sym (mul_assoc (at weights n) (product falling (length ds) xs (get_or fs c [])) (x c))))
    (cong_mul_right (x c) (cong_sym (entry c p)))))
    (cong_trans (s.holds n h) (fit_system_right w gs fs weights targets n))))
  where
    fs : List (List ℕ)
    fs = columns ds most

    count : ℕ
    count = length fs

    xs : List ℕ
    xs = digits gs n

    entry : (c : ℕ) → c < count → Cong (2 ^ w) (fit_system w gs fs weights targets n c) (at weights n * product falling (length ds) xs (get_or fs c []))
    entry c p = rw (sym same) (fit_system-entry w gs fs weights targets n c p)

-- ---- the answer and the call

-- the answer is a normal form, with 0 in every cell whose exponents sum to more than `most`
module _ (f : Fit) where
  pub fit_answer_normal : Normal f.width f.degrees (fit_answer f)
  unfolding fit_answer
  fit_answer_normal = fit_box_of_normal f.width f.degrees (fit_columns_of f) _

  pub fit_answer_outside : (n : ℕ) → n < cells f.degrees → f.most < total (digits f.degrees n) → at (fit_answer f) n ≡ 0
  unfolding fit_answer
  fit_answer_outside n h l = fit_box_of_other f.width f.degrees f.most _ n h l

  -- where the elimination succeeds, its value times the weight is the target, at every grid point
  pub fit_answer-fits : fit_succeeds f ≡ true → length f.grid ≡ length f.degrees → (n : ℕ) → n < cells f.grid
      → (at f.weights n * value (2 ^ f.width) f.degrees (fit_answer f) (digits f.grid n)) % 2 ^ f.width ≡ at f.targets n % 2 ^ f.width
  unfolding fit_answer fit_succeeds fit_state
  fit_answer-fits success same n h =
      (fit_box_of-fits f.width f.degrees f.grid f.most f.weights f.targets _ same
      (substituted-solves f.width (fit_rows f) (length (fit_columns_of f)) _
      (fit_system-lt f.width f.grid (fit_columns_of f) f.weights f.targets) (holds_of_true success)) n h
      ).same

-- an accepted call: the elimination succeeds, and the output is the answer
module _ (f : Fit) (ok : fit_number f ≡ 0) where
  no_cause : fit_cause f ≡ 0
  unfolding fit_number
  no_cause = (first-zero (fit_cause f) _ ok).0

  pub fit-succeeds : fit_succeeds f ≡ true
  unfolding fit_number
  fit-succeeds = passed (fit_succeeds f) 9 (first-zero (fit_cause f) _ ok).1

  pub fit_out-answer : fit_out f ≡ fit_answer f
  unfolding fit_out
  fit_out-answer =
      let zeros : List ℕ = tabulate (cells f.degrees) (λ n. 0) in
      ap (λ (k : ℕ). left k (cond (fit_succeeds f) (fit_answer f) zeros) f.out) no_cause
      ∙ ap (λ (b : Bool). cond b (fit_answer f) zeros) fit-succeeds
