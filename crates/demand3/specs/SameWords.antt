-- The words of demand 3 that `meaning` has too say the same there.
use Rattle.std.specs.Prelude.{◌≡◌, refl, ◌↔◌, ℕ, ◌^◌, List, ℤ}
use Rattle.meaning.specs.Values.{bound, Normal}
use Rattle.meaning.specs.Integers.{residue}
use Rattle.meaning.specs.Polynomials.{Polynomial, polynomial_at, PolynomialAgrees}
use Rattle.demand3.specs.Words.{polynomial_value, Agreeing, NormalForm}

-- values and agreement of polynomials
pub polynomial_value-eq : (w : ℕ) (ds : List ℕ) (p : Polynomial ds) (zs : List ℤ)
    → residue (2 ^ w) (polynomial_at ds p zs) ≡ polynomial_value w ds p.terms zs
unfolding polynomial_at
polynomial_value-eq w ds p zs = refl

pub agreeing_iff : (w : ℕ) (ds v : List ℕ) (p : Polynomial ds) → PolynomialAgrees (2 ^ w) ds p v ↔ Agreeing w ds v p.terms
unfolding PolynomialAgrees polynomial_at
agreeing_iff w ds v p = (λ a. record { degrees = p.within; everywhere = a }, λ a. a.everywhere)

-- normal forms
pub normal_iff : (w : ℕ) (ds c : List ℕ) → Normal w ds c ↔ NormalForm w ds c
unfolding bound
normal_iff w ds c = (λ n. record { whole = n.whole; below = n.below }, λ n. record { whole = n.whole; below = n.below })
