-- The cells of a box, counted variable by variable.
use Rattle.std.specs.Prelude.{◌≡◌, length, drop, List, ℕ, suc, ◌+◌, ◌*◌, ◌≤◌, ◌<◌}
use Rattle.std.proofs.Common.{◌∙◌, le-mul_of_pos_right, add-one, arith, drop_of_length-le, drop-cons, ap, mul-one}
use Rattle.meaning.specs.Tables.{at}
use Rattle.meaning.specs.Boxes.{cells}
use Rattle.theory.specs.Boxes.{cells_pos}

module _ (ds : List ℕ) (count i : ℕ) (counted : cells ds ≡ count * cells (drop i ds)) where
  -- one variable more
  pub counted_next : i < length ds → cells ds ≡ count * (at ds i + 1) * cells (drop (i + 1) ds)
  unfolding cells
  counted_next h =
      let rest = cells (drop (suc i) ds) in
      let e : cells (drop i ds) ≡ rest * suc (at ds i) = ap cells (drop-cons ds i 0 h) in
      let n : cells (drop (i + 1) ds) ≡ rest = ap (λ (n : ℕ). cells (drop n ds)) (add-one i) in
      simp (n, counted, e) (omega arith)

  -- all of them
  pub counted-end : length ds ≤ i → cells ds ≡ count
  unfolding cells
  counted-end h = counted ∙ ap (λ (l : List ℕ). count * cells l) (drop_of_length-le ds h) ∙ mul-one count

  -- a box has as many cells at least
  pub counted-le : count ≤ cells ds
  counted-le = simp counted (le-mul_of_pos_right count (cells_pos (drop i ds)))
