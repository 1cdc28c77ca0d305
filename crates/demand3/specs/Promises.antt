-- What the calls promise, in the words of demand 3, over what a call returned and left. C says when settings and lengths pass (`CallPasses`): each call has its
-- own limit and its own lengths. The contracts of the compiled calls cite these records.
use Rattle.std.specs.Prelude.{◌≡◌, ◌⊎◌, ◌↔◌, ℕ, suc, ◌%◌, ◌^◌, ◌<◌, List, map, ℤ, pos, length}
use Rattle.meaning.specs.Tables.{tabulate, at}
use Rattle.meaning.specs.Boxes.{cells, digits}
use Rattle.meaning.specs.Factorials.{degree_cap_of}
use Rattle.meaning.specs.Polynomials.{Term}
use Rattle.meaning.specs.Datum.{moved_pointℤ}
use Rattle.meaning.specs.Sameness.{Form, Same}
use Rattle.meaning.specs.Replies.{Reply}
use Rattle.demand3.specs.Words.{polynomial_value, box_value_of, PointOf, OnGrid, Agreeing, BoxOnGrid, Disagreement, Deciding, Another}
use Rattle.demand3.specs.Words.{NormalForm, NormalFormOf, SumOf, Coefficients}
use Rattle.demand3.specs.Settings.{WidthFits, FormPasses}

-- recovery of the grid v at width w over the degrees ds has returned the number and left the table `after`
pub record Decides (C : Type 0) (w : ℕ) (ds v : List ℕ) (number : ℕ) (after : List ℕ) : Type 0 where
  -- it is 0 or 6 exactly when settings and lengths pass
  pub decided : ((number ≡ 0) ⊎ (number ≡ 6)) ↔ C
  -- 0 exactly when, besides, some whole-number polynomial with no exponent above its degree agrees with the grid; one of any exponents is enough
  pub accepted : (number ≡ 0) ↔ (C × ((p : List Term) × Agreeing w ds v p))
  pub accepted_any : (number ≡ 0) ↔ (C × ((p : List Term) × OnGrid w ds v p))
  -- 6 exactly when, besides, none agrees; then none of any exponents does
  pub refused : (number ≡ 6) ↔ (C × ((p : List Term) → Agreeing w ds v p → ⊥))
  pub refused_any : (number ≡ 6) ↔ (C × ((p : List Term) → OnGrid w ds v p → ⊥))
  -- after 6 the output is zero
  pub zeroed : number ≡ 6 → after ≡ tabulate (cells ds) (λ n. 0)
  -- after 0 the output is a normal form that agrees with the grid, and the only one
  pub normal : number ≡ 0 → NormalForm w ds after
  pub agrees : number ≡ 0 → BoxOnGrid w ds v after
  pub only : number ≡ 0 → (c : List ℕ) → NormalForm w ds c → BoxOnGrid w ds v c → c ≡ after
  -- every other one disagrees with the grid at a point that is found
  pub others : number ≡ 0 → (c : List ℕ) → NormalForm w ds c → (c ≡ after → ⊥) → Disagreement w ds c v
  -- at every whole-number point it has the value of every polynomial within the box that agrees
  pub values : number ≡ 0 → (p : List Term) → Agreeing w ds v p → (zs : List ℤ) → box_value_of w ds after zs ≡ polynomial_value w ds p zs
  -- where the grid decides, of every polynomial of any exponents that has the lent values
  pub deciding : number ≡ 0 → Deciding w ds → (p : List Term) → OnGrid w ds v p → (zs : List ℤ) → box_value_of w ds after zs ≡ polynomial_value w ds p zs
  -- and no smaller grid does: where one degree is lower, another polynomial has the lent values too
  pub left_open : number ≡ 0 → (i : ℕ) → i < length ds → suc (at ds i) < degree_cap_of w → Another w ds v after

-- the value of the coefficient box c at the coordinates xs: that at every whole-number point, negative ones too, which has them modulo 2^w
pub record Valued (C : Type 0) (w : ℕ) (ds c xs : List ℕ) (answer : Reply) : Type 0 where
  pub accepted : (answer.number ≡ 0) ↔ C
  pub values : answer.number ≡ 0 → (zs : List ℤ) → PointOf w ds xs zs → answer.value ≡ box_value_of w ds c zs

-- the sum of the coefficient boxes a and b
pub record Summed (C : Type 0) (w : ℕ) (ds a b : List ℕ) (number : ℕ) (after : List ℕ) : Type 0 where
  pub accepted : (number ≡ 0) ↔ C
  pub sum : number ≡ 0 → SumOf w ds a b after

-- the coefficient box c, reduced to a normal form with the same values
pub record Reduced (C : Type 0) (w : ℕ) (ds c : List ℕ) (number : ℕ) (after : List ℕ) : Type 0 where
  pub accepted : (number ≡ 0) ↔ C
  pub normal : number ≡ 0 → NormalForm w ds after
  pub values : number ≡ 0 → (zs : List ℤ) → box_value_of w ds after zs ≡ box_value_of w ds c zs

-- the coefficient box c with its datum moved by the offsets os: bs are whole numbers, negative ones too, that are the offsets modulo 2^w
pub record DatumMoved (C : Type 0) (w : ℕ) (ds c os : List ℕ) (number : ℕ) (after : List ℕ) : Type 0 where
  pub accepted : (number ≡ 0) ↔ C
  -- the output is a normal form, and at every whole-number point its value is that of c at the moved point
  pub normal : number ≡ 0 → NormalForm w ds after
  pub values : number ≡ 0 → (bs zs : List ℤ) → PointOf w ds os bs → box_value_of w ds after zs ≡ box_value_of w ds c (moved_pointℤ zs bs)
  -- it is the only one: no other normal form has these values even on the grid
  pub only : number ≡ 0 → (bs : List ℤ) → PointOf w ds os bs → (e : List ℕ) → NormalForm w ds e
      → ((n : ℕ) → n < cells ds → box_value_of w ds e (map pos (digits ds n)) ≡ box_value_of w ds c (moved_pointℤ (map pos (digits ds n)) bs)) → e ≡ after
  -- offsets of zero modulo 2^w leave a normal form as it is
  pub still : number ≡ 0 → ((i : ℕ) → i < length ds → at os i % 2 ^ w ≡ 0) → NormalForm w ds c → after ≡ c

-- the answer to whether the coefficient box c is a normal form: 1 exactly when the width fits and it is one, else 0
pub record Judged (C : Type 0) (w : ℕ) (ds c : List ℕ) (answer : Reply) : Type 0 where
  pub accepted : (answer.number ≡ 0) ↔ C
  pub either : (answer.value ≡ 0) ⊎ (answer.value ≡ 1)
  pub yes : answer.number ≡ 0 → (answer.value ≡ 1) ↔ (WidthFits w × NormalForm w ds c)

-- the answer to whether the forms f and g are the same: 1 exactly when totals and widths are equal and both have the same value modulo 2^w at every
-- whole-number point, negative ones too, else 0
pub record Compared (f g : Form) (answer : Reply) : Type 0 where
  pub accepted : (answer.number ≡ 0) ↔ (FormPasses f × FormPasses g)
  pub either : (answer.value ≡ 0) ⊎ (answer.value ≡ 1)
  pub yes : answer.number ≡ 0 → (answer.value ≡ 1) ↔ Same f g

-- coefficients of powers c, converted to those of falling factorials: the box has at every point the value of the polynomial
pub record ToFalling (C : Type 0) (w : ℕ) (ds c : List ℕ) (number : ℕ) (after : List ℕ) : Type 0 where
  pub accepted : (number ≡ 0) ↔ C
  pub whole : number ≡ 0 → length after ≡ cells ds
  pub below : number ≡ 0 → (n : ℕ) → n < cells ds → at after n < 2 ^ w
  pub values : number ≡ 0 → (p : List Term) → Coefficients w ds p c → (zs : List ℤ) → box_value_of w ds after zs ≡ polynomial_value w ds p zs

-- and back: a polynomial with the coefficients that are left has at every point the value of the box c
pub record ToPowers (C : Type 0) (w : ℕ) (ds c : List ℕ) (number : ℕ) (after : List ℕ) : Type 0 where
  pub accepted : (number ≡ 0) ↔ C
  pub whole : number ≡ 0 → length after ≡ cells ds
  pub below : number ≡ 0 → (n : ℕ) → n < cells ds → at after n < 2 ^ w
  pub values : number ≡ 0 → (p : List Term) → Coefficients w ds p after → (zs : List ℤ) → polynomial_value w ds p zs ≡ box_value_of w ds c zs

-- coefficients of powers c, normalised: the normal form of the polynomial, and its only one
pub record Normalised (C : Type 0) (w : ℕ) (ds c : List ℕ) (number : ℕ) (after : List ℕ) : Type 0 where
  pub accepted : (number ≡ 0) ↔ C
  pub form : number ≡ 0 → (p : List Term) → Coefficients w ds p c → NormalFormOf w ds p after
  pub only : number ≡ 0 → (p : List Term) → Coefficients w ds p c → (e : List ℕ) → NormalFormOf w ds p e → e ≡ after
