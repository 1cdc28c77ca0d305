-- The loop that counts the cells of a box: the count so far times that of the variables left is all, so that a count above a table's length decides.
use Rattle.std.proofs.Common.{◌≡◌, ℕ, zero, suc, ◌+◌, ◌*◌, ◌^◌, ◌<◌, ◌≤◌, false, eqb, List, length, drop, sym, ap, ◌∙◌, le_trans, lt_irrefl, mul-one, add-one, arith, drop_of_length-le, drop-cons, ne_eqb}
use Rattle.meaning.specs.Tables.{at}
use Rattle.meaning.specs.Boxes.{cells}
use Rattle.theory.specs.Boxes.{cells_pos}

-- the variables before variable i have `size` cells
pub record Counted (ds : List ℕ) (size i : ℕ) : Type 0 where
  pub within : i ≤ length ds
  pub small : size < 2 ^ 60
  pub whole : cells ds ≡ size * cells (drop i ds)

module _ (ds : List ℕ) (size i : ℕ) (r : Counted ds size i) where
  module _ (h : i < length ds) where
    split : cells ds ≡ size * (at ds i + 1) * cells (drop (suc i) ds)
    unfolding cells
    split = r.whole ∙ ap (λ (l : List ℕ). size * cells l) (drop-cons ds i 0 h) ∙ regroup (cells (drop (suc i) ds)) size (at ds i)
      where
        regroup : (a b d : ℕ) → b * (a * suc d) ≡ b * (d + 1) * a
        regroup a b d = omega arith

    -- with variable i too
    pub counted_step : size * (at ds i + 1) < 2 ^ 60 → Counted ds (size * (at ds i + 1)) (i + 1)
    counted_step fits =
        let more : drop (i + 1) ds ≡ drop (suc i) ds = ap (λ (n : ℕ). drop n ds) (add-one i) in
        record { within = omega arith; small = fits; whole = rw more split }

    -- more cells than n so far are more in all
    pub too_many : (n : ℕ) → n < size * (at ds i + 1) → false ≡ eqb n (cells ds)
    too_many n more = sym (ne_eqb n (cells ds) λ e. lt_irrefl n (le_trans more (rw (e, split) (grows (size * (at ds i + 1)) _ (cells_pos (drop (suc i) ds))))))
      where
        grows : (a b : ℕ) → 0 < b → a ≤ a * b
        grows a zero p = elim p [ ]
        grows a (suc b) p = omega arith

  -- with all variables
  pub counted_done : length ds ≤ i → cells ds ≡ size
  unfolding cells
  counted_done h = r.whole ∙ ap (λ (l : List ℕ). size * cells l) (drop_of_length-le ds h) ∙ mul-one size
