-- What the functions on the rows of a matrix promise.
use Rattle.std.specs.Prelude.{◌≡◌, ℕ, ◌+◌, ◌*◌, ◌<◌, ◌≤◌, Bool, false, cond, List, length, slice_index_or}
use Rattle.meaning.specs.Tables.{at}
use Rattle.meaning.specs.Differences.{minus}
use Rattle.meaning.specs.Factorials.{twos_of}

-- the sizes of a matrix in `cols` columns, its rows one behind the other, and of a right side for each row
abbrev pub Sizes : ℕ → List ℕ → List ℕ → Type 0
Sizes cols mat rhs = (length mat ≡ length rhs * cols) × (length mat ≤ 65536) × (length rhs ≤ 65536)

-- t is t₀, but for the n numbers from `dst` on: each less q times the number of `src`, modulo m
pub record Subtracted (m q dst n : ℕ) (src : ℕ → ℕ) (t₀ t : List ℕ) : Type 0 where
  pub same : length t ≡ length t₀
  pub inside : (k : ℕ) → k < n → at t (dst + k) ≡ minus m (at t₀ (dst + k)) (q * src k)
  pub before : (j : ℕ) → j < dst → at t j ≡ at t₀ j
  pub after : (j : ℕ) → dst + n ≤ j → at t j ≡ at t₀ j

-- the height of row i in column c, read off a matrix and the list of the used rows
unfoldable pub height_of : ℕ → ℕ → List ℕ → List Bool → ℕ → ℕ → ℕ
height_of w cols mat used c i = cond (slice_index_or used i false) w (twos_of w (at mat (i * cols + c)))
