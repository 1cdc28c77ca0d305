-- The entries of the fit's matrix, the table of falling factorials that they are made of, and a column that is filled.
use Rattle.std.specs.Prelude.{◌≡◌, List, ℕ, ◌+◌, ◌*◌, ◌%◌, ◌^◌, ◌≤◌, ◌<◌, length, take, drop}
use Rattle.meaning.specs.Tables.{at}
use Rattle.meaning.specs.Factorials.{falling}
use Rattle.meaning.specs.Boxes.{digits}
use Rattle.meaning.specs.Values.{product}

-- the entry of grid cell i in column c, where the exponents of the columns stand one column behind the other: the weight times the falling factorials
-- of the coordinates to these exponents, modulo 2^w
unfoldable pub weighed : ℕ → List ℕ → List ℕ → List ℕ → ℕ → ℕ → ℕ
unfolding product falling digits
weighed w gs columns weights i c =
    (at weights i * product falling (length gs) (digits gs i) (take (length gs) (drop (c * length gs) columns))) % 2 ^ w

-- the falling factorial of x to the exponent e, modulo 2^w
abbrev pub fallen : ℕ → ℕ → ℕ → ℕ
fallen w x e = falling x e % 2 ^ w

-- from an entry of zero on all are zero
abbrev pub ZeroOn : List ℕ → Type 0
ZeroOn t = (a b : ℕ) → a ≤ b → b < length t → at t a ≡ 0 → at t b ≡ 0

-- the falling factorials of the coordinates 0, 1, .. to the exponents below `size`, one coordinate behind the other, as far as the table goes
abbrev pub Products : ℕ → ℕ → List ℕ → Type 0
Products w size table = (x e : ℕ) → e < size → x * size + e < length table → at table (x * size + e) ≡ fallen w x e

-- the exponents of a column are below `size`, and the table has the falling factorials of all coordinates of the grid
abbrev pub Tabled : List ℕ → List ℕ → ℕ → List ℕ → Type 0
Tabled gs es size table = (j : ℕ) → j < length gs → (at es j < size) × ((at gs j + 1) * size ≤ length table)

-- what stands in row i of the column of the exponents es, where v is the product of what is multiplied already
unfoldable pub column_entry : ℕ → ℕ → List ℕ → List ℕ → List ℕ → ℕ → ℕ
unfolding product falling digits
column_entry w v gs es weights i = (at weights i * (v * product falling (length gs) (digits gs i) es)) % 2 ^ w

-- column c of a matrix with rows of `cols` entries has the entries f 0, f 1, .. in the rows before row r; all else is as it was
pub record Columned (cols c : ℕ) (f : ℕ → ℕ) (m₀ m : List ℕ) (r : ℕ) : Type 0 where
  pub same : length m ≡ length m₀
  pub below : (i : ℕ) → i < r → at m (i * cols + c) ≡ f i
  pub above : (i : ℕ) → r ≤ i → at m (i * cols + c) ≡ at m₀ (i * cols + c)
  pub beside : (i b : ℕ) → b < cols → (b ≡ c → ⊥) → at m (i * cols + b) ≡ at m₀ (i * cols + b)

-- column c is zero in so many rows
abbrev pub ZeroColumn : ℕ → ℕ → ℕ → List ℕ → Type 0
ZeroColumn rows cols c m = (i : ℕ) → i < rows → at m (i * cols + c) ≡ 0
