-- Both conversions of a coefficient box along every variable, modulo m, and the normal form of a polynomial given by its power coefficients.
use Rattle.std.specs.Prelude.{ℕ, ◌%◌, ◌^◌, List}
use Rattle.meaning.specs.Tables.{tabulate}
use Rattle.meaning.specs.Boxes.{cells, digits, along}
use Rattle.meaning.specs.Values.{bound}
use Rattle.meaning.specs.Differences.{grid}
use Rattle.meaning.specs.Stirling.{falling_line, power_line}

-- from coefficients of powers to those of falling factorials
unfoldable pub falling_box : ℕ → List ℕ → List ℕ → List ℕ
unfolding along falling_line grid
falling_box m ds c = tabulate (cells ds) (λ n. along (falling_line m) ds (grid m ds c) (digits ds n))

-- and back
unfoldable pub power_box : ℕ → List ℕ → List ℕ → List ℕ
unfolding along power_line grid
power_box m ds c = tabulate (cells ds) (λ n. along (power_line m) ds (grid m ds c) (digits ds n))

-- to the falling factorials, then each coefficient modulo its bound
unfoldable pub normal_box : ℕ → List ℕ → List ℕ → List ℕ
unfolding along falling_line grid bound
normal_box w ds c = tabulate (cells ds) (λ n. along (falling_line (2 ^ w)) ds (grid (2 ^ w) ds c) (digits ds n) % bound w (digits ds n))
