-- Newton's differences modulo m, for one variable and for the variables of a degree list.
use Rattle.std.specs.Prelude.{ℕ, zero, suc, ◌+◌, ◌-◌, ◌%◌, List}
use Rattle.meaning.specs.Tables.{at}
use Rattle.meaning.specs.Boxes.{cell, along}

-- a - b modulo m
unfoldable pub minus : ℕ → ℕ → ℕ → ℕ
minus m a b = (a + (m - b % m)) % m

-- the first difference of v
unfoldable pub diff : ℕ → (ℕ → ℕ) → ℕ → ℕ
unfolding minus
diff m v x = minus m (v (suc x)) (v x)

-- the n-th difference of v
unfoldable pub diffs : ℕ → ℕ → (ℕ → ℕ) → ℕ → ℕ
unfolding diff
diffs m zero v x = v x
diffs m (suc n) v x = diffs m n (diff m v) x

-- one line's differences at 0, the e-th at index e
unfoldable pub newton : ℕ → ℕ → (ℕ → ℕ) → ℕ → ℕ
unfolding diffs
newton m d v e = diffs m e v 0

-- the differences at 0 of a function of the grid point, of order e for a variable with exponent e
unfoldable pub differences : ℕ → List ℕ → (List ℕ → ℕ) → List ℕ → ℕ
unfolding newton along
differences m ds v es = along (newton m) ds v es

-- a lent table of values as a function of the grid point, modulo m
unfoldable pub grid : ℕ → List ℕ → List ℕ → List ℕ → ℕ
grid m ds t xs = at t (cell ds xs) % m
