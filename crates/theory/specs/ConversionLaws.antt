-- Laws of the conversions of a coefficient box: conversions modulo a multiple of n are, modulo n, those modulo n; the two undo one another; and
-- neither changes a value, nor does the normal form. Both are transforms by a matrix of Stirling numbers.
use Rattle.std.specs.Prelude.{◌≡◌, List, length, ℕ, suc, ◌*◌, ◌%◌, ◌^◌, ◌<◌}
use Rattle.std.proofs.Common.{sym, ap, ◌∙◌, mod-lt, mul_comm}
use Rattle.meaning.specs.Tables.{tabulate, at}
use Rattle.meaning.specs.Factorials.{falling}
use Rattle.meaning.specs.Boxes.{cells, digits, along}
use Rattle.meaning.specs.Values.{value, bound, Bounded, Normal}
use Rattle.meaning.specs.Differences.{grid}
use Rattle.meaning.specs.Stirling.{stirling1, stirling2, falling_line, power_line}
use Rattle.meaning.specs.Conversions.{falling_box, power_box, normal_box}
use Rattle.theory.specs.Congruence.{cong_of_eq, cong_refl, cong_trans, mod-cong}
use Rattle.theory.specs.Sums.{sum_eq}
use Rattle.theory.specs.Tables.{length-tabulate, at-tabulate, eq-tabulate}
use Rattle.theory.specs.Integers.{residue_of_mul}
use Rattle.theory.specs.StirlingNumbers.{signed, stirling2-mul-signed, signed-mul-stirling2}
use Rattle.theory.specs.Evaluation.{eval, eval_cong, value-eq-eval}
use Rattle.theory.specs.Values.{entry}
use Rattle.theory.specs.BoxConversions.{eval-falling-along, eval_power_along}
use Rattle.theory.specs.MatrixLines.{Undoes, grid_cong, entry-matrix_box, matrix_box_bounded, matrix_box_of_mul, matrix_box_undo}
use Rattle.theory.specs.Widths.{bound_pos}
use Rattle.theory.specs.DemandThree.{value_cong_normal}

-- the coefficient of the falling factorial j in the power e, and of the power j in the falling factorial e, modulo m
abbrev to_falling : ℕ → ℕ → ℕ
to_falling j e = stirling2 e j

abbrev to_power : ℕ → ℕ → ℕ → ℕ
to_power m j e = signed m e j

-- ---- other moduli

-- a box converted modulo a multiple of n and then reduced modulo n
module _ (n k : ℕ) (p : 0 < n) (ds c : List ℕ) where
  pub falling_box_of_mul : tabulate (cells ds) (λ i. along (falling_line (n * k)) ds (entry ds c) (digits ds i) % n) ≡ falling_box n ds c
  unfolding falling_box falling_line
  falling_box_of_mul = matrix_box_of_mul n k to_falling to_falling (λ j e. cong_refl (stirling2 e j)) ds c p

  pub power_box_of_mul : 0 < k → tabulate (cells ds) (λ i. along (power_line (n * k)) ds (entry ds c) (digits ds i) % n) ≡ power_box n ds c
  unfolding power_box power_line
  power_box_of_mul q = matrix_box_of_mul n k (to_power (n * k)) (to_power n) (λ j e. residue_of_mul n k (stirling1 e j) p q) ds c p

-- ---- the conversions undo one another

module _ {m : ℕ} (positive : 0 < m) where
  power_undoes : Undoes m (to_power m) to_falling
  power_undoes d x k p =
      cong_trans (cong_of_eq m (sum_eq (suc d) (λ j q. mul_comm (signed m j x) (stirling2 k j)))) (stirling2-mul-signed positive k x d p)

  falling_undoes : Undoes m to_falling (to_power m)
  falling_undoes d x k p =
      cong_trans (cong_of_eq m (sum_eq (suc d) (λ j q. mul_comm (stirling2 j x) (signed m k j)))) (signed-mul-stirling2 positive k x d p)

  module _ (ds c : List ℕ) where
    pub power_box-falling_box : power_box m ds (falling_box m ds c) ≡ tabulate (cells ds) (λ i. at c i % m)
    unfolding power_box power_line falling_box falling_line
    power_box-falling_box = matrix_box_undo (to_power m) to_falling ds c positive power_undoes

    pub falling_box-power_box : falling_box m ds (power_box m ds c) ≡ tabulate (cells ds) (λ i. at c i % m)
    unfolding power_box power_line falling_box falling_line
    falling_box-power_box = matrix_box_undo to_falling (to_power m) ds c positive falling_undoes

    -- every coefficient is below m
    pub falling_box_bounded : Bounded (λ es. m) ds (falling_box m ds c)
    unfolding falling_box falling_line
    falling_box_bounded = matrix_box_bounded to_falling ds c positive

    pub power_box_bounded : Bounded (λ es. m) ds (power_box m ds c)
    unfolding power_box power_line
    power_box_bounded = matrix_box_bounded (to_power m) ds c positive

-- ---- no value changes

module _ (m : ℕ) (ds c xs : List ℕ) where
  -- the value of the converted box is that of the powers
  pub value-falling_box : value m ds (falling_box m ds c) xs ≡ eval ◌^◌ ds (entry ds c) xs % m
  unfolding falling_box falling_line
  value-falling_box =
      value-eq-eval m ds (falling_box m ds c) xs
      ∙ (cong_trans (eval_cong falling ds xs (λ es u. cong_of_eq m (entry-matrix_box to_falling m ds c es u)))
      (cong_trans (eval-falling-along ds (grid m ds c) xs) (eval_cong ◌^◌ ds xs (λ es u. grid_cong m ds c es)))
      ).same

  -- and the other way round
  pub eval-power_box : 0 < m → eval ◌^◌ ds (entry ds (power_box m ds c)) xs % m ≡ value m ds c xs
  unfolding power_box power_line
  eval-power_box positive =
      (cong_trans (eval_cong ◌^◌ ds xs (λ es u. cong_of_eq m (entry-matrix_box (to_power m) m ds c es u)))
      (cong_trans (eval_power_along ds (grid m ds c) xs positive) (eval_cong falling ds xs (λ es u. grid_cong m ds c es)))
      ).same
      ∙ sym (value-eq-eval m ds c xs)

-- ---- the normal form

module _ (w : ℕ) (ds c : List ℕ) where
  -- it is the converted box with each coefficient modulo its bound
  pub at-normal_box : (i : ℕ) → i < cells ds → at (normal_box w ds c) i ≡ at (falling_box (2 ^ w) ds c) i % bound w (digits ds i)
  unfolding normal_box falling_box
  at-normal_box i p = at-tabulate (cells ds) _ i p ∙ ap (◌% bound w (digits ds i)) (sym (at-tabulate (cells ds) _ i p))

  length-normal_box : length (normal_box w ds c) ≡ cells ds
  unfolding normal_box
  length-normal_box = length-tabulate (cells ds) _

  pub normal_box-eq : normal_box w ds c ≡ tabulate (cells ds) (λ i. at (falling_box (2 ^ w) ds c) i % bound w (digits ds i))
  normal_box-eq = eq-tabulate (normal_box w ds c) (cells ds) _ length-normal_box at-normal_box

  pub normal_box_normal : Normal w ds (normal_box w ds c)
  normal_box_normal =
      record { whole = length-normal_box; below = λ i p. rw (at-normal_box i p) (mod-lt _ (bound_pos w (digits ds i))) }

  -- with the values of the converted box, which are those of the powers
  pub value-normal_box : (xs : List ℕ) → value (2 ^ w) ds (normal_box w ds c) xs ≡ value (2 ^ w) ds (falling_box (2 ^ w) ds c) xs
  value-normal_box xs =
      value_cong_normal w ds (normal_box w ds c) (falling_box (2 ^ w) ds c) xs
      (λ i p. cong_trans (cong_of_eq _ (at-normal_box i p)) (mod-cong (bound w (digits ds i)) (at (falling_box (2 ^ w) ds c) i)))

  pub value-normal_box-eval : (xs : List ℕ) → value (2 ^ w) ds (normal_box w ds c) xs ≡ eval ◌^◌ ds (entry ds c) xs % 2 ^ w
  value-normal_box-eval xs = value-normal_box xs ∙ value-falling_box (2 ^ w) ds c xs
