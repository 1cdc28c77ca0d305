-- What the two definitions of recovery say in the words of demand 3: every difference passes exactly when some polynomial agrees, of any exponents or within
-- the box; the answer has the values of all of them. That it is the only normal form that agrees: proofs/Recovered.
use Rattle.std.specs.Prelude.{◌≡◌, ℕ, ◌%◌, ◌^◌, List, map, T, ℤ, pos}
use Rattle.std.proofs.Common.{◌∙◌, pow_pos}
use Rattle.std.proofs.Math.Decide.{ℕ_discrete}
use Rattle.meaning.specs.Tables.{at}
use Rattle.meaning.specs.Boxes.{cells, digits}
use Rattle.meaning.specs.Values.{value, Agrees}
use Rattle.meaning.specs.Integers.{residue}
use Rattle.meaning.specs.Polynomials.{Term, Polynomial, polynomial_at, PolynomialAgrees}
use Rattle.meaning.specs.Recovery.{accepts, answer}
use Rattle.theory.specs.Every.{failing}
use Rattle.theory.specs.Integers.{residue-box_at}
use Rattle.theory.specs.Values.{value_cong_point}
use Rattle.theory.specs.CutPolynomials.{cut_box, cut_box_agrees}
use Rattle.theory.specs.DemandThree
use Rattle.theory.specs.WholeNumbers
use Rattle.demand3.specs.Words.{polynomial_value, box_value_of, OnGrid, Agreeing, BoxOnGrid, Disagreement}

-- the value of a box at natural numbers, in both ways of saying it
pub value-eq : (w : ℕ) (ds c xs : List ℕ) → box_value_of w ds c (map pos xs) ≡ value (2 ^ w) ds c xs
value-eq w ds c xs =
    residue-box_at (pow_pos w) ds c (map pos xs)
    ∙ value_cong_point (2 ^ w) ds c (map (residue (2 ^ w)) (map pos xs)) xs (λ i p. WholeNumbers.residue-coordinates (pow_pos w) xs i)

module _ (w : ℕ) (ds v : List ℕ) where
  -- ---- acceptance

  -- a polynomial of any exponents that has the lent values makes every difference pass
  pub accepts_of_on_grid : (p : List Term) → OnGrid w ds v p → T (accepts w ds v)
  accepts_of_on_grid p a = DemandThree.accepts_of_agrees w ds (cut_box (2 ^ w) ds p) v (cut_box_agrees (pow_pos w) ds p v a)

  -- where every difference passes, a polynomial within the box agrees
  pub agreeing_of_accepts : T (accepts w ds v) → (p : List Term) × Agreeing w ds v p
  unfolding PolynomialAgrees polynomial_at
  agreeing_of_accepts t =
      let p : Polynomial ds = WholeNumbers.power_polynomial (2 ^ w) ds (answer w ds v) in
      (p.terms, record { degrees = p.within; everywhere = WholeNumbers.polynomial_of_accepts w ds v t })

  -- ---- the answer

  -- where every difference passes, it agrees with the grid
  pub answer_agrees : T (accepts w ds v) → BoxOnGrid w ds v (answer w ds v)
  unfolding Agrees
  answer_agrees t n p = value-eq w ds (answer w ds v) (digits ds n) ∙ DemandThree.answer_agrees w ds v t n p

  -- it has at every point the value of every polynomial within the box that agrees
  pub answer_values : (p : List Term) → Agreeing w ds v p → (zs : List ℤ) → box_value_of w ds (answer w ds v) zs ≡ polynomial_value w ds p zs
  unfolding PolynomialAgrees polynomial_at
  answer_values p a zs = WholeNumbers.answer-residue w ds (record { terms = p; within = a.degrees }) v zs a.everywhere

  -- a box that does not agree has a disagreement
  pub disagreement : (c : List ℕ) → (BoxOnGrid w ds v c → ⊥) → Disagreement w ds c v
  disagreement c ne =
      let f = failing (cells ds) (λ n. box_value_of w ds c (map pos (digits ds n)) ≡ at v n % 2 ^ w)
      (λ n. ℕ_discrete (box_value_of w ds c (map pos (digits ds n))) (at v n % 2 ^ w)) ne in
      record { place = f.index; inside = f.below; differs = f.fails }
