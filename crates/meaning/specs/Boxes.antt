-- Boxes. A degree list ds has one degree for each support variable, first variable first. Its box has a cell for each exponent list with no
-- exponent above its degree, and the first variable's exponent counts fastest.
use Rattle.std.specs.Prelude.{ℕ, suc, ◌+◌, ◌*◌, ◌/◌, ◌%◌, ◌≤◌, List, [], ◌∷◌}
use Rattle.meaning.specs.Sums.{sum}

-- how many cells the box has
unfoldable pub cells : List ℕ → ℕ
cells [] = 1
cells (d ∷ ds) = cells ds * suc d

-- the exponent list, or the grid point, of a cell number
unfoldable pub digits : List ℕ → ℕ → List ℕ
digits [] n = []
digits (d ∷ ds) n = n % suc d ∷ digits ds (n / suc d)

-- the cell number of an exponent list
unfoldable pub cell : List ℕ → List ℕ → ℕ
cell [] es = 0
cell (d ∷ ds) [] = 0
cell (d ∷ ds) (e ∷ es) = cell ds es * suc d + e

-- an exponent for each variable, none above its degree
pub data Within : List ℕ → List ℕ → Type 0 where
  none : Within [] []
  next : {d e : ℕ} {ds es : List ℕ} → e ≤ d → Within ds es → Within (d ∷ ds) (e ∷ es)

-- the sum of f over the exponent lists of the box
unfoldable pub box_sum : List ℕ → (List ℕ → ℕ) → ℕ
box_sum [] f = f []
box_sum (d ∷ ds) f = sum (suc d) (λ e. box_sum ds (λ es. f (e ∷ es)))

-- A transform of one line takes the degree d, the line's d + 1 entries and an index, and gives the entry there. `along` does it to a function of
-- the grid point along every variable, first variable first.
unfoldable pub along : (ℕ → (ℕ → ℕ) → ℕ → ℕ) → List ℕ → (List ℕ → ℕ) → List ℕ → ℕ
along line [] v es = v []
along line (d ∷ ds) v [] = 0
along line (d ∷ ds) v (e ∷ es) = along line ds (λ xs. line d (λ x. v (x ∷ xs)) e) es
