-- Loops over the sub-boxes of the last variable. A walk is at the last exponent e and at the cell where its sub-box begins.
use Rattle.std.specs.Prelude.{◌≡◌, ℕ, suc, ◌+◌, ◌-◌, ◌*◌, ◌/◌, ◌<◌, ◌≤◌, List, [], ◌∷◌, length}
use Rattle.std.proofs.Common.{sym, ◌∙◌, ap, suc-le-suc, mul_comm, lt_of_mul-lt-mul_right, le_of_mul-le-mul_right, mul-le-mul_right, le_of_suc-le-suc, suc-ne-zero, arith}
use Rattle.std.proofs.Math.Nat.{suc_inj}
use Rattle.meaning.specs.Tables.{at}
use Rattle.meaning.specs.Boxes.{cells}
use Rattle.theory.specs.Boxes.{cells_pos}
use Rattle.theory.specs.LastVariable.{others, final, cells_last, size_last}
use Rattle.theory.specs.Parts.{part, length_part}

-- A table of n cells for the box with the degrees ds is cut into sub-boxes of the given size. The walk is at the last exponent e, whose sub-box begins at
-- the cell `from`.
pub record Walk (ds : List ℕ) (n size e from : ℕ) : Type 0 where
  pub filled : 0 < length ds
  pub whole : n ≡ cells ds
  pub sized : size ≡ cells (others ds)
  pub place : from ≡ e * size
  pub within : e ≤ suc (final ds)

-- the size is found by a division
pub walk_start : (ds : List ℕ) (n : ℕ) → 0 < length ds → n ≡ cells ds → Walk ds n (n / (final ds + 1)) 0 0
walk_start ds n h e =
    record { filled = h; whole = e; sized = size_last ds h n e; place = omega arith; within = omega arith }

-- of two variables the others are one
line-others : (ds : List ℕ) → length ds ≡ 2 → at ds 0 + 1 ≡ cells (others ds)
unfolding cells
line-others [] h = absurd (suc-ne-zero 1 (sym h))
line-others (d ∷ []) h = absurd (suc-ne-zero 0 (suc_inj (sym h)))
line-others (d ∷ (y ∷ [])) h = omega arith
line-others (d ∷ (y ∷ (z ∷ zs))) h = absurd (suc-ne-zero (length zs) (suc_inj (suc_inj h)))

-- two variables, whose sub-boxes are lines
pub walk_lines : (ds : List ℕ) (n : ℕ) → length ds ≡ 2 → n ≡ cells ds → (size : ℕ) → size ≡ at ds 0 + 1 → Walk ds n size 0 0
walk_lines ds n h e size s =
    record { filled = omega arith; whole = e; sized = s ∙ line-others ds h; place = omega arith; within = omega arith }

module _ {ds : List ℕ} {n size e from : ℕ} (w : Walk ds n size e from) where
  pub walk_all : n ≡ suc (final ds) * size
  walk_all = w.whole ∙ cells_last ds w.filled ∙ mul_comm (cells (others ds)) (suc (final ds)) ∙ ap (suc (final ds) *◌) (sym w.sized)

  pub walk_size : 0 < size
  walk_size = rw w.sized (cells_pos (others ds))

  -- a sub-box is left as long as an exponent is
  pub walk_left : e < suc (final ds) → from < n
  walk_left h = omega (arith, w.place, walk_all, walk_size, mul-le-mul_right size h)

  pub walk_over : suc (final ds) ≤ e → n ≤ from
  walk_over h = omega (arith, w.place, walk_all, mul-le-mul_right size h)

  -- a sub-box is left
  module _ (h : from < n) where
    pub walk_exponent : e ≤ final ds
    walk_exponent = le_of_suc-le-suc (lt_of_mul-lt-mul_right size (rw (← w.place, ← walk_all) h))

    pub walk_fits : from + size ≤ n
    walk_fits = omega (arith, w.place, walk_all, mul-le-mul_right size (suc-le-suc walk_exponent))

    pub walk_less : n - (from + size) < n - from
    walk_less = omega (arith, walk_size, h)

    -- a part of a table for the box is a table for the smaller box
    pub walk_part : (t : List ℕ) → length t ≡ n → length (part from (from + size) t) ≡ cells (others ds)
    walk_part t k = length_part from (from + size) t (omega (arith, walk_fits)) ∙ omega (arith, w.sized)

    pub walk_next : Walk ds n size (e + 1) (from + size)
    walk_next =
        record {
          filled = w.filled;
          whole = w.whole;
          sized = w.sized;
          place = omega (arith, w.place);
          within = omega (arith, walk_exponent);
        }

  -- none is left
  pub walk_done : n ≤ from → e ≡ suc (final ds)
  walk_done h =
      let last : suc (final ds) ≤ e = le_of_mul-le-mul_right (omega (arith, w.place, walk_all)) walk_size in
      omega (arith, w.within)

  pub walk_end : n ≤ from → from ≡ n
  walk_end h = w.place ∙ ap (◌* size) (walk_done h) ∙ sym walk_all
