-- What the listing of the columns leaves in a table of bytes.
use Rattle.std.specs.Prelude.{◌≡◌, List, ◌++◌, map, ℕ, ◌+◌, ◌-◌, length, take, drop}
use Rattle.meaning.specs.Elimination.{joined}
use Rattle.theory.specs.ColumnListing.{exactly}

-- the table t with xs from place a on
abbrev pub pasted : List ℕ → ℕ → List ℕ → List ℕ
pasted t a xs = take a t ++ xs ++ drop (a + length xs) t

-- the exponents of the first variables, given as p, before each exponent list of the box of ds with the sum r; these lists one behind the other
unfoldable pub listing : List ℕ → List ℕ → ℕ → List ℕ
unfolding joined exactly
listing p ds r = joined (map (p ++◌) (exactly ds r))

-- the exponents of the variables before those of ds, which are the last
abbrev pub exponents_before : List ℕ → List ℕ → List ℕ
exponents_before current ds = take (length current - length ds) current

-- the exponent lists with the sum `left` in the variables of ds, each behind the exponents chosen before, stand in the table from place a on; r is
-- the place behind them, and the exponents chosen before are kept
pub record Listed (t₀ : List ℕ) (a : ℕ) (current₀ ds : List ℕ) (left : ℕ) (t current : List ℕ) (r : ℕ) : Type 0 where
  pub end : r ≡ a + length (listing (exponents_before current₀ ds) ds left)
  pub written : t ≡ pasted t₀ a (listing (exponents_before current₀ ds) ds left)
  pub kept : take (length current₀ - length ds) current ≡ exponents_before current₀ ds
