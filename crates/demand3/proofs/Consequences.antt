-- What follows from the demands of several calls, in the same words. Two polynomials written one behind the other are their sum, so that two accepted grids
-- have an accepted sum; its answer is the only normal form that agrees, so it is every normal form of the sum of the two answers. A polynomial with the
-- values of a grid has those of every grid that it contains. Recovery and the normaliser leave the same of one polynomial, as it has one normal form. A
-- grid that decides tells any two polynomials apart.
use Rattle.std.specs.Prelude.{◌≡◌, ℕ, suc, ◌+◌, ◌%◌, ◌^◌, ◌≤◌, ◌<◌, List, [], ◌∷◌, ◌++◌, map, ℤ, pos, length}
use Rattle.std.proofs.Common.{sym, ap, ◌∙◌, suc-le-suc, le_trans, mod-eq_of_lt, zero-lt-suc, arith, pow_pos}
use Rattle.meaning.specs.Tables.{at}
use Rattle.meaning.specs.Boxes.{cells, digits, cell, Within, none, next}
use Rattle.meaning.specs.Polynomials.{Term}
use Rattle.theory.specs.Congruence.{cong_add, mod-cong}
use Rattle.theory.specs.Boxes.{digits-within, digits-cell, cell-lt}
use Rattle.theory.specs.Integers.{residue-lt}
use Rattle.theory.specs.OpenGrids.{residue-append}
use Rattle.demand3.specs.Words.{polynomial_value, OnGrid, Agreeing, NormalFormOf, SumOf, GridSum, Contains, Deciding}
use Rattle.demand3.specs.Tests.{suc-zero}
use Rattle.demand3.proofs.Recovered.{answer_decides}
use Rattle.demand3.specs.Promises.{Decides}

-- ---- sums

module _ (w : ℕ) (ds u v t : List ℕ) (sum : GridSum w ds u v t) where
  -- readings of the sum
  add_readings : (n : ℕ) → n < cells ds → {x y : ℕ} → x ≡ at u n % 2 ^ w → y ≡ at v n % 2 ^ w → (x + y) % 2 ^ w ≡ at t n % 2 ^ w
  add_readings n l {x} {y} e f =
      ap (λ (k : ℕ). (k + y) % 2 ^ w) e
      ∙ ap (λ (k : ℕ). (at u n % 2 ^ w + k) % 2 ^ w) f
      ∙ (cong_add (mod-cong (2 ^ w) (at u n)) (mod-cong (2 ^ w) (at v n))).same
      ∙ sym (sum.each n l)

  -- the sum of polynomials that have the values of the grids has those of the sum
  append_on_grid : (p q : List Term) → OnGrid w ds u p → OnGrid w ds v q → OnGrid w ds t (p ++ q)
  append_on_grid p q a b n l =
      sym (mod-eq_of_lt (residue-lt (pow_pos w) _)) ∙ (residue-append (pow_pos w) (length ds) p q (map pos (digits ds n))).same ∙ add_readings n l (a n l) (b n l)

module _ {w : ℕ} {ds u v t : List ℕ} (sum : GridSum w ds u v t) where
  module _ {C₁ C₂ C₃ : Type 0} {a b c : List ℕ} {n₁ n₂ n₃ : ℕ}
      (first : Decides C₁ w ds u n₁ a) (second : Decides C₂ w ds v n₂ b) (whole : Decides C₃ w ds t n₃ c) (zero₁ : n₁ ≡ 0) (zero₂ : n₂ ≡ 0) (passes : C₃) where
    -- where two grids are accepted, so is their sum
    pub sum-accepted : n₃ ≡ 0
    sum-accepted =
        let p = (first.accepted_any.0 zero₁).1 in
        let q = (second.accepted_any.0 zero₂).1 in
        whole.accepted_any.1 (passes, (p.0 ++ q.0, append_on_grid w ds u v t sum p.0 q.0 p.1 q.1))

    -- and its answer is the sum of the answers
    pub sum-answer : (s : List ℕ) → SumOf w ds a b s → s ≡ c
    sum-answer s h =
        whole.only sum-accepted s h.normal
        (λ n l. h.values (map pos (digits ds n)) ∙ add_readings w ds u v t sum n l (first.agrees zero₁ n l) (second.agrees zero₂ n l))

-- ---- larger grids

-- points of the smaller grid are points of the larger one
within_larger : {ds xs : List ℕ} (es : List ℕ) → length es ≡ length ds → ((i : ℕ) → i < length ds → at ds i ≤ at es i) → Within ds xs → Within es xs
within_larger [] e h none = none
within_larger (d ∷ es) e h none = absurd (suc-zero _ e)
within_larger [] e h (next p u) = absurd (suc-zero _ (sym e))
within_larger (d ∷ es) e h (next {ds = ds} p u) =
    let same : length es ≡ length ds = omega (arith, e) in
    next (le_trans p (h 0 (zero-lt-suc (length ds)))) (within_larger es same (λ i l. h (suc i) (suc-le-suc l)) u)

module _ {w : ℕ} {es u ds v : List ℕ} (contains : Contains w es u ds v) where
  on_grid_smaller : (p : List Term) → OnGrid w es u p → OnGrid w ds v p
  on_grid_smaller p a n l =
      let inside = within_larger es contains.variables contains.larger (digits-within ds n) in
      rw (sym contains.variables) (
      ap (λ (xs : List ℕ). polynomial_value w es p (map pos xs)) (sym (digits-cell inside))
      ∙ a (cell es (digits ds n)) (cell-lt inside)
      ∙ contains.same n l
      )

  -- a grid that contains a refused one is refused
  pub larger_refused : {C D : Type 0} {number : ℕ} {after : List ℕ} {number' : ℕ} {after' : List ℕ}
      → Decides C w ds v number after → Decides D w es u number' after' → number ≡ 6 → D → number' ≡ 6
  larger_refused small large six passes =
      large.refused_any.1 (passes, λ p a. (small.refused_any.0 six).1 p (on_grid_smaller p a))

-- ---- normal forms

-- where recovery accepts the grid of a polynomial within the box, it leaves its normal form
pub recovered_normal_form : {C : Type 0} {w : ℕ} {ds v : List ℕ} {number : ℕ} {after : List ℕ}
    → Decides C w ds v number after → number ≡ 0 → (p : List Term) → Agreeing w ds v p → NormalFormOf w ds p after
recovered_normal_form call zero p a = record { normal = call.normal zero; values = call.values zero p a }

-- ---- deciding grids

-- two polynomials of any exponents that have the same values on a grid that decides are one function
pub deciding_one_function : (w : ℕ) (ds v : List ℕ) → Deciding w ds → (p q : List Term) → OnGrid w ds v p → OnGrid w ds v q
    → (zs : List ℤ) → polynomial_value w ds p zs ≡ polynomial_value w ds q zs
deciding_one_function w ds v h p q a b zs = sym (answer_decides w ds v h p a zs) ∙ answer_decides w ds v h q b zs
