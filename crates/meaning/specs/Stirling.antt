-- Stirling numbers by their recurrences.
use Rattle.std.specs.Prelude.{ℕ, zero, suc, ◌+◌, ◌*◌, ◌%◌, ℤ, pos, ◌-ℤ◌, ◌*ℤ◌}
use Rattle.meaning.specs.Sums.{sum}
use Rattle.meaning.specs.Integers.{residue}

-- second kind: the coefficients of x^n in falling factorials
unfoldable pub stirling2 : ℕ → ℕ → ℕ
stirling2 zero zero = 1
stirling2 zero (suc j) = 0
stirling2 (suc n) zero = 0
stirling2 (suc n) (suc j) = suc j * stirling2 n (suc j) + stirling2 n j

-- first kind, signed: the coefficients of the falling factorial x_(n) in powers
unfoldable pub stirling1 : ℕ → ℕ → ℤ
stirling1 zero zero = pos 1
stirling1 zero (suc j) = pos 0
stirling1 (suc n) zero = pos 0
stirling1 (suc n) (suc j) = stirling1 n j -ℤ pos n *ℤ stirling1 n (suc j)

-- Conversion of one line of coefficients modulo m, c e being that of exponent e up to the degree d.

-- from powers to falling factorials
unfoldable pub falling_line : ℕ → ℕ → (ℕ → ℕ) → ℕ → ℕ
falling_line m d c j = sum (suc d) (λ e. stirling2 e j * c e) % m

-- from falling factorials to powers
unfoldable pub power_line : ℕ → ℕ → (ℕ → ℕ) → ℕ → ℕ
power_line m d c j = sum (suc d) (λ e. residue m (stirling1 e j) * c e) % m
