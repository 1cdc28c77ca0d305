-- The largest of the first entries.
use Rattle.std.specs.Prelude.{◌≡◌, ℕ, zero, suc, max}
use Rattle.std.proofs.Common.{arith}
use Rattle.meaning.specs.Leaves.{largest}

-- one entry more
pub largest_last : (n : ℕ) (f : ℕ → ℕ) → largest (suc n) f ≡ max (largest n f) (f n)
unfolding largest
largest_last zero f = omega arith
largest_last (suc n) f = omega (arith, largest_last n (λ i. f (suc i)))
