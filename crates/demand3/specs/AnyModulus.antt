-- Demand 3 over any modulus m: `o` splits, for each exponent list, the product of the factorials into its common part g with m and a rest that has an
-- inverse modulo h, where m = g h. The differences pass when each is a multiple of its g, and a bounded box has each coefficient below its h.
use Rattle.std.specs.Prelude.{◌≡◌, ◌↔◌, ℕ, ◌%◌, ◌<◌, List, map, ℤ, pos, length}
use Rattle.std.proofs.Common.{sym, ◌∙◌}
use Rattle.meaning.specs.Tables.{at}
use Rattle.meaning.specs.Boxes.{cells, digits}
use Rattle.meaning.specs.Values.{value, Bounded, box_total}
use Rattle.meaning.specs.Integers.{residue}
use Rattle.meaning.specs.Polynomials.{Term, terms_at, Polynomial, polynomial_at, PolynomialAgrees, box_at}
use Rattle.theory.specs.Every.{Failing}
use Rattle.theory.specs.Integers.{residue-box_at}
use Rattle.theory.specs.CutPolynomials.{cut_box, cut_box_agrees}
use Rattle.theory.specs.GridRecovery.{Cells, DifferencesPass, solutions, table_total, solutions_bounded, solutions_agree, passes_of_agrees, agrees_same, bounded_disagrees, passes-total, solutions-total}
use Rattle.theory.specs.WholeNumbers.{polynomial_box, power_polynomial, residue-polynomial_at, polynomial_agrees_iff, power_polynomial_agrees_iff}

module _ {m : ℕ} (positive : 0 < m) (o : Cells m) (ds v : List ℕ) where
  -- 1, 2: every difference passes exactly when some polynomial agrees with the grid modulo m
  pub passes-iff : DifferencesPass o ds v ↔ ((p : Polynomial ds) × PolynomialAgrees m ds p v)
  passes-iff = (
    λ h.
        let p : Polynomial ds = power_polynomial m ds (solutions o ds v) in
        (p, (power_polynomial_agrees_iff positive ds (solutions o ds v) v).1 (solutions_agree positive o ds v h)),
    λ s. passes_of_agrees positive o ds (polynomial_box m ds s.0) v ((polynomial_agrees_iff positive ds s.0 v).0 s.1),
  )

  -- and so for polynomials of any exponents
  pub passes_of_any : (p : List Term) → ((n : ℕ) → n < cells ds → residue m (terms_at (length ds) p (map pos (digits ds n))) ≡ at v n % m) → DifferencesPass o ds v
  passes_of_any p a = passes_of_agrees positive o ds (cut_box m ds p) v (cut_box_agrees positive ds p v a)

  -- 3: the answer is bounded, and where every difference passes it has at every point the value of every polynomial that agrees
  pub answer_bounded : Bounded (λ es. (o es).h) ds (solutions o ds v)
  answer_bounded = solutions_bounded positive o ds v

  pub answer_values : (p : Polynomial ds) → PolynomialAgrees m ds p v → (zs : List ℤ)
      → residue m (box_at ds (solutions o ds v) zs) ≡ residue m (polynomial_at ds p zs)
  answer_values p a zs =
      residue-box_at positive ds (solutions o ds v) zs
      ∙ agrees_same positive o ds (solutions o ds v) v (solutions_agree positive o ds v (passes-iff.1 (p, a))) (polynomial_box m ds p) (map (residue m) zs)
      ((polynomial_agrees_iff positive ds p v).0 a)
      ∙ sym (residue-polynomial_at positive ds p zs)

  -- 4: every other bounded box disagrees with the grid at some grid point, which is found
  pub others_disagree : (c : List ℕ) → Bounded (λ es. (o es).h) ds c → (c ≡ solutions o ds v → ⊥)
      → Failing (cells ds) (λ n. value m ds c (digits ds n) ≡ at v n % m)
  others_disagree c b ne = bounded_disagrees positive o ds c v b ne

  -- 5: sums
  module _ (u : List ℕ) (p : DifferencesPass o ds u) (q : DifferencesPass o ds v) where
    pub total-passes : DifferencesPass o ds (table_total m ds u v)
    total-passes = passes-total positive o ds u v p q

    pub total-answer : solutions o ds (table_total m ds u v) ≡ box_total (λ es. (o es).h) ds (solutions o ds u) (solutions o ds v)
    total-answer = solutions-total positive o ds u v p q
