-- The inverse of an odd number modulo a power of two, digit by digit.
use Rattle.std.specs.Prelude.{ℕ, zero, suc, ◌+◌, ◌*◌, ◌%◌, ◌^◌, cond, eqb}

-- v where it serves one binary digit further, else v with that digit set
unfoldable pub lifted : ℕ → ℕ → ℕ → ℕ
lifted x b v = cond (eqb ((x * v) % 2 ^ suc b) (1 % 2 ^ suc b)) v (v + 2 ^ b)

-- for an odd x the number below 2 ^ b whose product with x is 1 modulo 2 ^ b
unfoldable pub inverse : ℕ → ℕ → ℕ
inverse x zero = 0
inverse x (suc b) = lifted x b (inverse x b)
