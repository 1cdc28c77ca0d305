-- What a call of the fit returns and leaves, and what holds of an accepted fit: of its settings and tables, of the number and the degree that it returns,
-- and of the output at the end. No step of the elimination is named.
use Rattle.std.specs.Prelude.{◌≡◌, ◌⊎◌, ℕ, ◌*◌, ◌%◌, ◌^◌, ◌≤◌, ◌<◌, List, map, pos}
use Rattle.meaning.specs.Tables.{at}
use Rattle.meaning.specs.Boxes.{cells, digits}
use Rattle.meaning.specs.Replies.{Reply}
use Rattle.meaning.specs.Fit.{total, Fit, fit_reply, fit_out, fit_matrix, fit_right}
use Rattle.demand3.specs.Words.{box_value_of, NormalForm}

-- the call of the fit f: its reply r, and the tables at the end
abbrev pub Called : Fit → List ℕ → List ℕ → List ℕ → Reply → Type 0
Called f matrix right out r = (r ≡ fit_reply f) × ((out ≡ fit_out f) × (matrix ≡ fit_matrix f) × (right ≡ fit_right f))

-- a coefficient of the box c that is not 0 and whose exponents sum to `degree`
pub record Reached (ds c : List ℕ) (degree : ℕ) : Type 0 where
  pub place : ℕ
  pub inside : place < cells ds
  pub present : at c place ≡ 0 → ⊥
  pub sums : total (digits ds place) ≡ degree

-- w is the width, ds the degrees of the output's box, gs those of the grid, `most` is max_degree. Where the number is 0:
-- the output is a normal form, with 0 in every cell whose exponents sum to more than max_degree; its value times the weight is the target, modulo 2^w, at
-- every grid point; and the degree is the largest sum of exponents among the coefficients that are not 0, or 0
pub record Fits (w : ℕ) (ds gs : List ℕ) (most : ℕ) (weights targets : List ℕ) (number degree : ℕ) (after : List ℕ) : Type 0 where
  pub normal : number ≡ 0 → NormalForm w ds after
  pub outside : number ≡ 0 → (n : ℕ) → n < cells ds → most < total (digits ds n) → at after n ≡ 0
  pub fits : number ≡ 0 → (n : ℕ) → n < cells gs
      → (at weights n * box_value_of w ds after (map pos (digits gs n))) % 2 ^ w ≡ at targets n % 2 ^ w
  pub highest : number ≡ 0 → (n : ℕ) → n < cells ds → (at after n ≡ 0 → ⊥) → total (digits ds n) ≤ degree
  pub reached : number ≡ 0 → (degree ≡ 0) ⊎ Reached ds after degree
