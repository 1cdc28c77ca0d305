-- Recovery: from the values on the grid to the coefficients of the falling factorials, at width w and for a degree list ds.
use Rattle.std.specs.Prelude.{ℕ, zero, suc, ◌*◌, ◌-◌, ◌/◌, ◌%◌, ◌^◌, min, Bool, true, ◌&&◌, List, eqb}
use Rattle.meaning.specs.Tables.{tabulate}
use Rattle.meaning.specs.Boxes.{cells, digits}
use Rattle.meaning.specs.Values.{weight, odd_factor}
use Rattle.meaning.specs.Inverses.{inverse}
use Rattle.meaning.specs.Differences.{differences, grid}

-- the raw difference at cell n of the table v of values
unfoldable pub difference : ℕ → List ℕ → List ℕ → ℕ → ℕ
unfolding differences grid
difference w ds v n = differences (2 ^ w) ds (grid (2 ^ w) ds v) (digits ds n)

-- with q twos in the factorials, 2^q divides the difference D; where q is w or more, D is 0. As D is below 2^w, both say that 2^(least of q and w)
-- divides it.
unfoldable pub divides : ℕ → List ℕ → ℕ → Bool
unfolding weight
divides w es D = eqb (D % 2 ^ min (weight es) w) 0

-- (D / 2^q) times the inverse of the odd part of the factorials, modulo 2^(w - q)
unfoldable pub coefficient : ℕ → List ℕ → ℕ → ℕ
unfolding weight odd_factor inverse
coefficient w es D = (D / 2 ^ weight es * inverse (odd_factor es) (w - weight es)) % 2 ^ (w - weight es)

-- a test holds of 0, 1, .., n - 1
unfoldable pub every : ℕ → (ℕ → Bool) → Bool
every zero p = true
every (suc n) p = p 0 && every n (λ i. p (suc i))

-- every difference passes
unfoldable pub accepts : ℕ → List ℕ → List ℕ → Bool
unfolding every divides difference
accepts w ds v = every (cells ds) (λ n. divides w (digits ds n) (difference w ds v n))

-- the coefficients
unfoldable pub answer : ℕ → List ℕ → List ℕ → List ℕ
unfolding coefficient difference
answer w ds v = tabulate (cells ds) (λ n. coefficient w (digits ds n) (difference w ds v n))
