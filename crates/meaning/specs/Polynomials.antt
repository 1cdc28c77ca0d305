-- Whole-number polynomials and their values, and the value of a coefficient box at a whole-number point.
use Rattle.std.specs.Prelude.{◌≡◌, ℕ, zero, suc, ◌%◌, ◌<◌, List, [], ◌∷◌, map, ℤ, pos, ◌+ℤ◌, ◌*ℤ◌, length, get_or, drop}
use Rattle.meaning.specs.Tables.{at}
use Rattle.meaning.specs.Boxes.{cells, digits, Within}
use Rattle.meaning.specs.Integers.{residue, fallingℤ, powerℤ}

-- the product of f x e over k variables; a list that is too short is read as if zeros followed
unfoldable pub productℤ : (ℤ → ℕ → ℤ) → ℕ → List ℤ → List ℕ → ℤ
productℤ f zero xs es = pos 1
productℤ f (suc k) xs es = f (get_or xs 0 (pos 0)) (at es 0) *ℤ productℤ f k (drop 1 xs) (drop 1 es)

-- f 0 + f 1 + .. + f (n - 1)
unfoldable pub sumℤ : ℕ → (ℕ → ℤ) → ℤ
sumℤ zero f = pos 0
sumℤ (suc n) f = f 0 +ℤ sumℤ n (λ i. f (suc i))

-- a term: a whole-number coefficient and an exponent list
pub record Term : Type 0 where
  pub coefficient : ℤ
  pub exponents : List ℕ

-- the value of a sum of terms in k variables at a whole-number point
unfoldable pub terms_at : ℕ → List Term → List ℤ → ℤ
terms_at k [] xs = pos 0
terms_at k (t ∷ ts) xs = t.coefficient *ℤ productℤ powerℤ k xs t.exponents +ℤ terms_at k ts xs

-- a whole-number polynomial within the box: no exponent of a term is above its degree
pub data Terms (ds : List ℕ) : List Term → Type 0 where
  no_terms : Terms ds []
  one_more : {t : Term} {ts : List Term} → Within ds t.exponents → Terms ds ts → Terms ds (t ∷ ts)

pub record Polynomial (ds : List ℕ) : Type 0 where
  pub terms : List Term
  pub within : Terms ds terms

-- its value at a whole-number point
unfoldable pub polynomial_at : (ds : List ℕ) → Polynomial ds → List ℤ → ℤ
unfolding terms_at
polynomial_at ds p xs = terms_at (length ds) p.terms xs

-- the polynomial agrees with the grid v: at every grid point its value is the lent one, modulo m
unfoldable pub PolynomialAgrees : (m : ℕ) (ds : List ℕ) → Polynomial ds → List ℕ → Type 0
PolynomialAgrees m ds p v = (n : ℕ) → n < cells ds → residue m (polynomial_at ds p (map pos (digits ds n))) ≡ at v n % m

-- the value of the coefficient box c at a whole-number point
unfoldable pub box_at : List ℕ → List ℕ → List ℤ → ℤ
unfolding sumℤ
box_at ds c xs = sumℤ (cells ds) (λ n. productℤ fallingℤ (length ds) xs (digits ds n) *ℤ pos (at c n))
