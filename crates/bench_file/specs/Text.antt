-- The text of numbers and lines, in bytes: 10 ends a line, 32 is a blank, 48 to 57 are the digits.
use Rattle.std.specs.Prelude.{ℕ, zero, suc, ◌+◌, ◌/◌, ◌%◌, List, [], ◌∷◌, ◌++◌}

-- the byte that shows the last digit of n, a blank where n is 0
abbrev pub shown : ℕ → ℕ
shown zero = 32
shown (suc n) = 48 + suc n % 10

-- the last k columns of the digits of n, blank where no digit is left
unfoldable pub columns : ℕ → ℕ → List ℕ
columns zero n = []
columns (suc k) n = columns k (n / 10) ++ (shown n ∷ [])

-- a number in 21 columns, right-justified, without leading zeros: the last column is a digit even where the number is 0
unfoldable pub number : ℕ → List ℕ
unfolding columns
number n = columns 20 (n / 10) ++ ((48 + n % 10) ∷ [])

-- numbers side by side
unfoldable pub numbers : List ℕ → List ℕ
unfolding number
numbers [] = []
numbers (n ∷ ns) = number n ++ numbers ns

-- a line of numbers
unfoldable pub line : List ℕ → List ℕ
unfolding numbers
line ns = numbers ns ++ (10 ∷ [])
