-- Recovery and whole-number polynomials: a table of values is accepted exactly when some whole-number polynomial within the box agrees with it,
-- and then the answer has at every whole-number point the residue of every such polynomial.
-- A polynomial's terms are gathered and converted to falling factorials; a box is converted to powers and has a term for each cell. Both keep the
-- residue at every whole-number point, so everything follows from recovery of boxes.
use Rattle.std.specs.Prelude.{◌≡◌, ◌↔◌, T, ℤ, length, ℕ, zero, suc, ◌^◌, ◌<◌, List, [], ◌∷◌, map, pos}
use Rattle.std.proofs.Common.{sym, ◌∙◌, pow_pos}
use Rattle.meaning.specs.Tables.{tabulate, at}
use Rattle.meaning.specs.Factorials.{falling}
use Rattle.meaning.specs.Boxes.{cells, digits, along}
use Rattle.meaning.specs.Values.{value, Agrees}
use Rattle.meaning.specs.Integers.{residue}
use Rattle.meaning.specs.Stirling.{falling_line, power_line}
use Rattle.meaning.specs.Polynomials.{Polynomial, polynomial_at, PolynomialAgrees, box_at}
use Rattle.meaning.specs.Recovery.{accepts, answer}
use Rattle.theory.specs.Congruence.{Cong, cong_of_eq, cong_refl, cong_sym, cong_trans, eq_of_cong}
use Rattle.theory.specs.Evaluation.{eval-eq}
use Rattle.theory.specs.Integers.{residue-lt, residue_pos, residue-box_at}
use Rattle.theory.specs.Values.{entry, entry-tabulate, value-lt, value_cong_eval, value_cong_point}
use Rattle.theory.specs.BoxConversions.{eval-falling-along, eval_power_along}
use Rattle.theory.specs.PowerBoxes.{gathered, polynomial_of, residue-terms_at, residue-polynomial_of}
use Rattle.theory.specs.DemandThree.{answer_agrees, accepts_of_agrees, same_values}

-- the polynomial's coefficients of the falling factorials modulo m
unfoldable pub polynomial_box : (m : ℕ) (ds : List ℕ) → Polynomial ds → List ℕ
polynomial_box m ds p = tabulate (cells ds) (λ n. along (falling_line m) ds (gathered m (length ds) p.terms) (digits ds n))

-- the polynomial, in powers, of a box of coefficients of the falling factorials
unfoldable pub power_polynomial : (m : ℕ) (ds c : List ℕ) → Polynomial ds
power_polynomial m ds c = polynomial_of ds (tabulate (cells ds) (λ n. along (power_line m) ds (entry ds c) (digits ds n)))

-- the residues of natural coordinates are the coordinates, modulo m
pub residue-coordinates : {m : ℕ} (positive : 0 < m) (xs : List ℕ) (i : ℕ) → Cong m (at (map (residue m) (map pos xs)) i) (at xs i)
residue-coordinates positive [] i = cong_refl 0
residue-coordinates positive (x ∷ xs) zero = residue_pos positive x
residue-coordinates positive (x ∷ xs) (suc i) = residue-coordinates positive xs i

module _ {m : ℕ} (positive : 0 < m) (ds : List ℕ) where
  -- a polynomial has the residues of its falling box at every whole-number point
  pub residue-polynomial_at : (p : Polynomial ds) (zs : List ℤ) → residue m (polynomial_at ds p zs) ≡ value m ds (polynomial_box m ds p) (map (residue m) zs)
  unfolding polynomial_at polynomial_box
  residue-polynomial_at p zs =
      eq_of_cong (residue-lt positive (polynomial_at ds p zs)) (value-lt ds (polynomial_box m ds p) xs positive)
      (cong_trans (residue-terms_at positive zs p.within)
      (cong_trans (cong_sym (eval-falling-along ds a xs))
      (cong_trans (cong_of_eq m (eval-eq falling ds xs (λ es w. sym (entry-tabulate ds (along (falling_line m) ds a) es w))))
      (cong_sym (value_cong_eval m ds (polynomial_box m ds p) xs)))))
    where
      xs : List ℕ
      xs = map (residue m) zs

      a : List ℕ → ℕ
      a = gathered m (length ds) p.terms

  -- a box has the residues of its polynomial at every whole-number point
  pub residue-power_polynomial : (c : List ℕ) (zs : List ℤ)
      → residue m (polynomial_at ds (power_polynomial m ds c) zs) ≡ value m ds c (map (residue m) zs)
  unfolding power_polynomial
  residue-power_polynomial c zs =
      eq_of_cong (residue-lt positive (polynomial_at ds (power_polynomial m ds c) zs)) (value-lt ds c xs positive)
      (cong_trans (residue-polynomial_of positive ds (tabulate (cells ds) (λ n. along (power_line m) ds (entry ds c) (digits ds n))) zs)
      (cong_trans (cong_of_eq m (eval-eq ◌^◌ ds xs (entry-tabulate ds (along (power_line m) ds (entry ds c)))))
      (cong_trans (eval_power_along ds (entry ds c) xs positive) (cong_sym (value_cong_eval m ds c xs)))))
    where
      xs : List ℕ
      xs = map (residue m) zs

  -- at a grid point
  residue-digits : (c : List ℕ) (n : ℕ) → value m ds c (map (residue m) (map pos (digits ds n))) ≡ value m ds c (digits ds n)
  residue-digits c n =
      value_cong_point m ds c (map (residue m) (map pos (digits ds n))) (digits ds n) (λ i p. residue-coordinates positive (digits ds n) i)

  -- a polynomial agrees exactly when its falling box does
  pub polynomial_agrees_iff : (p : Polynomial ds) (v : List ℕ) → PolynomialAgrees m ds p v ↔ Agrees m ds (polynomial_box m ds p) v
  unfolding PolynomialAgrees Agrees
  polynomial_agrees_iff p v = (λ a n q. sym (same n) ∙ a n q, λ a n q. same n ∙ a n q)
    where
      same : (n : ℕ) → residue m (polynomial_at ds p (map pos (digits ds n))) ≡ value m ds (polynomial_box m ds p) (digits ds n)
      same n = residue-polynomial_at p (map pos (digits ds n)) ∙ residue-digits (polynomial_box m ds p) n

  -- a box agrees exactly when its polynomial does
  pub power_polynomial_agrees_iff : (c v : List ℕ) → PolynomialAgrees m ds (power_polynomial m ds c) v ↔ Agrees m ds c v
  unfolding PolynomialAgrees Agrees
  power_polynomial_agrees_iff c v = (λ a n q. sym (same n) ∙ a n q, λ a n q. same n ∙ a n q)
    where
      same : (n : ℕ) → residue m (polynomial_at ds (power_polynomial m ds c) (map pos (digits ds n))) ≡ value m ds c (digits ds n)
      same n = residue-power_polynomial c (map pos (digits ds n)) ∙ residue-digits c n

module _ (w : ℕ) (ds : List ℕ) where
  -- where a polynomial agrees, the table is accepted
  pub accepts_of_polynomial : (p : Polynomial ds) (v : List ℕ) → PolynomialAgrees (2 ^ w) ds p v → T (accepts w ds v)
  accepts_of_polynomial p v a = accepts_of_agrees w ds (polynomial_box (2 ^ w) ds p) v ((polynomial_agrees_iff (pow_pos w) ds p v).0 a)

  -- where the table is accepted, the polynomial of the answer agrees
  pub polynomial_of_accepts : (v : List ℕ) → T (accepts w ds v) → PolynomialAgrees (2 ^ w) ds (power_polynomial (2 ^ w) ds (answer w ds v)) v
  polynomial_of_accepts v t = (power_polynomial_agrees_iff (pow_pos w) ds (answer w ds v) v).1 (answer_agrees w ds v t)

  -- the answer has at every whole-number point the residue of every polynomial that agrees
  pub answer-residue : (p : Polynomial ds) (v : List ℕ) (zs : List ℤ) → PolynomialAgrees (2 ^ w) ds p v
      → residue (2 ^ w) (box_at ds (answer w ds v) zs) ≡ residue (2 ^ w) (polynomial_at ds p zs)
  answer-residue p v zs a =
      residue-box_at (pow_pos w) ds (answer w ds v) zs
      ∙ same_values w ds (answer w ds v) (polynomial_box (2 ^ w) ds p) v (map (residue (2 ^ w)) zs)
      (answer_agrees w ds v (accepts_of_polynomial p v a)) ((polynomial_agrees_iff (pow_pos w) ds p v).0 a)
      ∙ sym (residue-polynomial_at (pow_pos w) ds p zs)
