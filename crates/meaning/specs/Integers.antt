-- Whole numbers, which may be negative, and their residues.
use Rattle.std.specs.Prelude.{ℕ, zero, suc, pred, ◌*◌, ◌%◌, ℤ, pos, negsuc, ◌-ℤ◌, ◌*ℤ◌}

-- the natural number below m that is z modulo m; -(n + 1) is (m - 1) (n + 1) modulo m
unfoldable pub residue : ℕ → ℤ → ℕ
residue m (pos n) = n % m
residue m (negsuc n) = (pred m * suc n) % m

-- x (x - 1) .. (x - n + 1)
unfoldable pub fallingℤ : ℤ → ℕ → ℤ
fallingℤ x zero = pos 1
fallingℤ x (suc n) = fallingℤ x n *ℤ (x -ℤ pos n)

-- x^n
unfoldable pub powerℤ : ℤ → ℕ → ℤ
powerℤ x zero = pos 1
powerℤ x (suc n) = powerℤ x n *ℤ x
