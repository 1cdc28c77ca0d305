-- What rests on the laws of Settings.antt and Recovery.antt: when a call on tables of numbers passes, and that the answer of recovery is the only normal form,
-- has the value of every polynomial where the grid decides, and of not all where it does not.
use Rattle.std.specs.Prelude.{◌≡◌, ◌↔◌, Bool, true, [], ℕ, suc, ◌+◌, ◌^◌, ◌<◌, List, ◌++◌, map, T, ℤ, pos, length}
use Rattle.std.proofs.Common.{sym, ◌∙◌, suc-le-suc, add-zero, zero-add, add_comm, pow_pos}
use Rattle.meaning.specs.Tables.{at}
use Rattle.meaning.specs.Boxes.{cells, digits}
use Rattle.meaning.specs.Factorials.{degree_cap_of}
use Rattle.meaning.specs.Values.{Agrees}
use Rattle.meaning.specs.Integers.{residue}
use Rattle.meaning.specs.Polynomials.{Term}
use Rattle.meaning.specs.Recovery.{accepts, answer}
use Rattle.theory.specs.Congruence.{Cong, cong_of_eq, cong_sym, cong_trans, cong_add-left, cong_add_cancel, eq_of_cong}
use Rattle.theory.specs.Boxes.{digits-within, within-at}
use Rattle.theory.specs.Integers.{residue-box_at, residue-lt}
use Rattle.theory.specs.CutPolynomials.{cut_box, value_cut_box, cut_box_agrees}
use Rattle.theory.specs.DecidingGrids.{cuts_deciding}
use Rattle.theory.specs.OpenGrids.{alone, falling_terms, residue-append, falling_terms-zero, falling_terms_not_zero}
use Rattle.theory.specs.DemandThree
use Rattle.demand3.specs.SameWords.{normal_iff}
use Rattle.demand3.specs.Words.{polynomial_value, box_value_of, OnGrid, Agreeing, BoxOnGrid, NormalForm, Deciding, Another}
use Rattle.meaning.specs.Settings.{table_limit, call_number}
use Rattle.demand3.specs.Settings.{Lengths, CallPasses, exactly, passing_iff}
use Rattle.demand3.specs.Recovery.{value-eq, accepts_of_on_grid, agreeing_of_accepts, answer_values}

-- a call on tables of numbers passes exactly when its number is 0
pub call_iff : (strict : Bool) (total : ℕ) (fits : Bool) (support ds : List ℕ) (tables : ℕ → Lengths)
    → (call_number strict total fits support ds (exactly true (tables (cells ds))) ≡ 0) ↔ CallPasses table_limit strict total fits support ds tables
unfolding call_number
call_iff strict total fits support ds tables = passing_iff table_limit strict total fits support ds [] tables

-- ---- the answer

module _ (w : ℕ) (ds v : List ℕ) where
  -- it is a normal form
  pub answer_normal : NormalForm w ds (answer w ds v)
  answer_normal = (normal_iff w ds (answer w ds v)).0 (DemandThree.answer_normal w ds v)

  -- where the grid decides, of every polynomial that has the lent values
  pub answer_decides : Deciding w ds → (p : List Term) → OnGrid w ds v p → (zs : List ℤ) → box_value_of w ds (answer w ds v) zs ≡ polynomial_value w ds p zs
  answer_decides h p a zs =
      residue-box_at (pow_pos w) ds (answer w ds v) zs
      ∙ DemandThree.same_values w ds (answer w ds v) (cut_box (2 ^ w) ds p) v (map (residue (2 ^ w)) zs)
      (DemandThree.answer_agrees w ds v (accepts_of_on_grid w ds v p a)) (cut_box_agrees (pow_pos w) ds p v a)
      ∙ value_cut_box (pow_pos w) ds p zs (cuts_deciding w ds (map (residue (2 ^ w)) zs) h)

  -- it is the only normal form that agrees
  pub answer_unique : (c : List ℕ) → NormalForm w ds c → BoxOnGrid w ds v c → c ≡ answer w ds v
  unfolding Agrees
  answer_unique c n a =
      DemandThree.normal_unique w ds c v ((normal_iff w ds c).1 n) (λ i p. sym (value-eq w ds c (digits ds i)) ∙ a i p)

-- ---- what a grid leaves open

-- where a degree d is below the deciding one, the falling factorial to d + 1 can be added: it is 0 on the grid, and not at d + 1
pub another : (w : ℕ) (ds v : List ℕ) → T (accepts w ds v) → (i : ℕ) → i < length ds → suc (at ds i) < degree_cap_of w → Another w ds v (answer w ds v)
another w ds v t i l h =
    record {
      polynomial = p ++ q;
      on_grid = λ j b. eq_of_cong (residue-lt positive _) (residue-lt positive _) (cong_trans (append (grid j)) (vanishing j)) ∙ agrees.everywhere j b;
      point = map pos (alone i n);
      differs = λ e. falling_terms_not_zero w k i n l h (nothing (sym (answer_values w ds v p agrees (map pos (alone i n))) ∙ e));
    }
  where
    positive : 0 < 2 ^ w
    positive = pow_pos w

    k : ℕ
    k = length ds

    n : ℕ
    n = suc (at ds i)

    p : List Term
    p = (agreeing_of_accepts w ds v t).0

    agrees : Agreeing w ds v p
    agrees = (agreeing_of_accepts w ds v t).1

    q : List Term
    q = falling_terms i n

    grid : ℕ → List ℤ
    grid j = map pos (digits ds j)

    append : (zs : List ℤ) → Cong (2 ^ w) (polynomial_value w ds (p ++ q) zs) (polynomial_value w ds p zs + polynomial_value w ds q zs)
    append zs = residue-append positive k p q zs

    vanishing : (j : ℕ) → Cong (2 ^ w) (polynomial_value w ds p (grid j) + polynomial_value w ds q (grid j)) (polynomial_value w ds p (grid j))
    vanishing j =
        cong_trans
        (cong_add-left (polynomial_value w ds p (grid j)) (falling_terms-zero w k i n l (digits ds j) (suc-le-suc (within-at (digits-within ds j) i))))
        (cong_of_eq (2 ^ w) (add-zero _))

    nothing : polynomial_value w ds p (map pos (alone i n)) ≡ polynomial_value w ds (p ++ q) (map pos (alone i n))
        → Cong (2 ^ w) (polynomial_value w ds q (map pos (alone i n))) 0
    nothing e =
        let P : ℕ = polynomial_value w ds p (map pos (alone i n)) in
        let Q : ℕ = polynomial_value w ds q (map pos (alone i n)) in
        cong_add_cancel P
        (cong_trans (cong_of_eq (2 ^ w) (add_comm Q P)) (cong_trans (cong_sym (append (map pos (alone i n)))) (cong_of_eq (2 ^ w) (sym e ∙ sym (zero-add P)))))
