-- Sizes of a fit: there is always a column, and the answer's box has no more cells than the matrix has entries.
use Rattle.std.specs.Prelude.{◌≡◌, refl, ℕ, zero, suc, ◌+◌, ◌*◌, ◌≤◌, ◌<◌, min, List, [], ◌∷◌, length, replicate}
use Rattle.std.proofs.Common.{ap, ap₂, ◌∙◌, zero-le, suc-le-suc, le_refl, le_trans, le_of_eq, mul-le-mul, le-mul_of_pos_right, zero-lt-suc}
use Rattle.std.proofs.Math.Nat.{zero-mod, zero-div, min-le_right}
use Rattle.meaning.specs.Boxes.{cells, digits}
use Rattle.meaning.specs.Settings.{cube}
use Rattle.meaning.specs.Fit.{total, columns}
use Rattle.theory.specs.Boxes.{digits-within}
use Rattle.theory.specs.Columns.{In, here, there, in-columns-iff}

-- the exponents of cell 0 are 0
pub total_first : (ds : List ℕ) → total (digits ds 0) ≡ 0
unfolding total digits
total_first [] = refl
total_first (d ∷ ds) = ap₂ ◌+◌ (zero-mod (suc d)) (ap (λ (n : ℕ). total (digits ds n)) (zero-div (suc d)) ∙ total_first ds)

-- where something stands there is an entry
length_pos : {g : List ℕ} {fs : List (List ℕ)} → In g fs → 0 < length fs
length_pos (here {f} {fs} e) = zero-lt-suc (length fs)
length_pos (there {f} {fs} i) = zero-lt-suc (length fs)

-- there is always a column
pub columns_pos : (ds : List ℕ) (most : ℕ) → 0 < length (columns ds most)
columns_pos ds most =
    length_pos ((in-columns-iff ds most (digits ds 0)).1 (digits-within ds 0, le_trans (le_of_eq (total_first ds)) zero-le))

-- a box with lower degrees has no more cells
pub cells-cube-le : (k a b : ℕ) → cells (replicate k (min a b)) ≤ cells (replicate k b)
unfolding cells
cells-cube-le zero a b = le_refl 1
cells-cube-le (suc k) a b = mul-le-mul (cells-cube-le k a b) (suc-le-suc (min-le_right a b))

-- the answer's box, the grid and the matrix
pub box-le_matrix : (support : List ℕ) (a b most : ℕ)
    → cells (cube support (min a b)) ≤ cells (cube support b) * length (columns (cube support (min a b)) most)
box-le_matrix support a b most =
    le_trans (cells-cube-le (length support) a b) (le-mul_of_pos_right _ (columns_pos (cube support (min a b)) most))
