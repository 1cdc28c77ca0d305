-- The two Stirling tables under one name.
use Rattle.std.specs.Prelude.{◌≡◌, ℕ, ◌+◌, ◌/◌, ◌%◌, ◌^◌, List}
use Rattle.meaning.specs.Tables.{at}
use Rattle.meaning.specs.Differences.{minus}
use Rattle.meaning.specs.Integers.{residue}
use Rattle.meaning.specs.Stirling.{stirling1, stirling2}
use Rattle.meaning.specs.Leaves.{stirling1_table, stirling2_table}
use Rattle.math_utils.specs.declared.stirling.Kind.{Kind}

-- the entry at a cell of a table with rows of the given length
abbrev pub entry : Kind → ℕ → ℕ → ℕ → ℕ
entry Kind.First w side c = residue (2 ^ w) (stirling1 (c / side) (c % side))
entry Kind.Second w side c = stirling2 (c / side) (c % side) % 2 ^ w

-- the factor of the entry above in row i and column j, as a word: 1 - i, or j
abbrev pub factor : Kind → ℕ → ℕ → ℕ
factor Kind.First i j = minus (2 ^ 64) 1 i
factor Kind.Second i j = j % 2 ^ 64

-- `first`, `first` + `step`, .. are the factors of row i
pub record Factors (k : Kind) (i first step : ℕ) : Type 0 where
  pub begins : first ≡ factor k i 1
  pub grows : (j : ℕ) → factor k i (j + 1) ≡ (factor k i j + step) % 2 ^ 64

abbrev pub table : Kind → ℕ → ℕ → List ℕ
table Kind.First n w = stirling1_table n w
table Kind.Second n w = stirling2_table n w

-- a table whose entries are all 0
abbrev pub Zeros : List ℕ → Type 0
Zeros t = (c : ℕ) → at t c ≡ 0
