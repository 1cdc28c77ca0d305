-- The layout of a row from variable to variable, and where that of the masks begins.
use Rattle.std.proofs.Common.{◌≡◌, ℕ, suc, ◌+◌, ◌*◌, ◌<◌, ◌≤◌, Bool, true, false, cond, ltb, List, [], ◌∷◌, length, take, drop, set, refl, ap, ◌∙◌, ap₂, add-one, arith, length-set, drop_of_length-le, drop-cons, get_or-set_other, ltb-false}
use Rattle.theory.specs.Boxes.{cells_pos}
use Rattle.meaning.specs.Tables.{at}
use Rattle.meaning.specs.Factorials.{twos_of, twos}
use Rattle.meaning.specs.Boxes.{cells}
use Rattle.meaning.specs.Values.{weight, bound}
use Rattle.theory.specs.Tables.{filled_part, tabulate_cong}
use Rattle.box_rows.specs.Layouts.{cell_number_of, numbered, Laying}
use Rattle.box_rows.specs.Rows.{mask, row_variables, row_next, row_stop}

-- 0 has no binary digits
pub no_twos : twos 0 ≡ 0
unfolding twos twos_of
no_twos = refl

-- ---- the variables of a row

-- the first i variables, of `size` cells, belong to the row, and so do as many of the others as fit
pub record InRow (ds : List ℕ) (size i : ℕ) : Type 0 where
  pub small : size ≤ 256
  pub rest : row_variables 1 ds ≡ i + row_variables size (drop i ds)

-- the mask of no exponents
pub no_mask : 0xffff_ffff_ffff_ffff ≡ mask []
unfolding bound weight
no_mask = refl

pub in_row_start : (ds : List ℕ) → InRow ds 1 0
in_row_start ds = record { small = omega arith; rest = omega arith }

module _ (ds : List ℕ) (size i : ℕ) (r : InRow ds size i) where
  module _ (h : i < length ds) where
    next : drop i ds ≡ at ds i ∷ drop (suc i) ds
    next = drop-cons ds i 0 h

    -- the row is full
    pub in_row_stop : 256 < size * (at ds i + 1) → i ≡ row_variables 1 ds
    in_row_stop l =
        let none : row_variables size (drop i ds) ≡ 0 = ap (row_variables size) next ∙ row_stop size (at ds i) (drop (suc i) ds) (rw add-one at l) in
        omega (arith, r.rest, none)

    -- one variable more
    pub in_row_step : size * (at ds i + 1) ≤ 256 → (n : ℕ) → n ≡ size * suc (at ds i) → InRow ds n (i + 1)
    in_row_step l n e =
        let fits : size * suc (at ds i) ≤ 256 = rw add-one at l in
        let some : row_variables size (drop i ds) ≡ suc (row_variables (size * suc (at ds i)) (drop (suc i) ds)) =
        ap (row_variables size) next ∙ row_next size (at ds i) (drop (suc i) ds) fits in
        let left : row_variables n (drop (i + 1) ds) ≡ row_variables (size * suc (at ds i)) (drop (suc i) ds) =
        ap₂ (λ (k j : ℕ). row_variables k (drop j ds)) e (add-one i) in
        record { small = omega (arith, e, fits); rest = omega (arith, r.rest, some, left) }

  -- no variable is left
  pub in_row_end : length ds ≤ i → i ≡ row_variables 1 ds
  unfolding row_variables
  in_row_end h =
      let none : row_variables size (drop i ds) ≡ 0 = ap (row_variables size) (drop_of_length-le ds h) in
      omega (arith, r.rest, none)

-- what the table has then
pub laying_done : (F : List ℕ → ℕ) (ds m₀ m : List ℕ) (size i : ℕ) → Laying F ds m₀ m size i
    → (t : List ℕ) (v : ℕ) → m₀ ≡ set t 0 v → m ≡ numbered F (take i ds) t
laying_done F ds m₀ m size i r t v e =
    let long : length m₀ ≡ length t = ap length e ∙ length-set t 0 v in
    rw long at (filled_part number m₀ m size (cells (take i ds)) r.filled r.count)
    ∙ tabulate_cong (length t) _ _ (λ n l. entry n (ltb n (cells (take i ds))) refl)
  where
    number : ℕ → ℕ
    number = cell_number_of F (take i ds)

    entry : (n : ℕ) (b : Bool) → ltb n (cells (take i ds)) ≡ b → cond b (number n) (at m₀ n) ≡ cond b (number n) (at t n)
    entry n true l = refl
    entry n false l =
        ap (λ (k : List ℕ). at k n) e ∙ get_or-set_other t 0 n v 0 (omega (arith, ltb-false n (cells (take i ds)) l, cells_pos (take i ds)))
