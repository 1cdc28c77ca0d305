-- What the room of a fit promises of its counts, for k support variables, one max_degree and one grid_degree.
use Rattle.std.specs.Prelude.{◌≡◌, ◌↔◌, List, [], ◌∷◌, ℕ, suc, ◌*◌, ◌^◌, ◌≤◌, min, length, replicate}
use Rattle.meaning.specs.Boxes.{Within}
use Rattle.meaning.specs.Fit.{total}
use Rattle.meaning.specs.Counts.{FitRoom}
use Rattle.theory.specs.Columns.{In}

-- no list stands twice
pub data Distinct : List (List ℕ) → Type 0 where
  distinct_none : Distinct []
  distinct_more : {f : List ℕ} {fs : List (List ℕ)} → (In f fs → ⊥) → Distinct fs → Distinct (f ∷ fs)

-- n exponent lists have k exponents, none above d, and a sum of `most` at most: they can be listed, each once
pub record ListCount (k d most n : ℕ) : Type 0 where
  pub lists : List (List ℕ)
  pub count : length lists ≡ n
  pub once : Distinct lists
  pub all : (es : List ℕ) → In es lists ↔ (Within (replicate k d) es × (total es ≤ most))

pub record FitCosts (k max-degree grid-degree : ℕ) (room : FitRoom) : Type 0 where
  -- a row for each grid point
  pub points : room.number ≡ 0 → room.row_count ≡ suc grid-degree ^ k
  -- a column for each exponent list
  pub lists : room.number ≡ 0 → ListCount k (min max-degree grid-degree) max-degree room.column_count
  -- an entry for each row and column
  pub product : room.number ≡ 0 → room.entry_count ≡ room.row_count * room.column_count
  -- beside a refusal there is no count
  pub none : (room.number ≡ 0 → ⊥) → (room.row_count ≡ 0) × (room.column_count ≡ 0) × (room.entry_count ≡ 0)
  -- and none is near the end of 64 bits
  pub small : (room.row_count ≤ 65536) × (room.column_count ≤ 65536) × (room.entry_count ≤ 65536)
