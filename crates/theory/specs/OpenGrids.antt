-- Grids that leave something open: where d + 1 is below `degree_cap_of`, the falling factorial of one variable to d + 1 is a polynomial that is 0 at every grid
-- point, and at d + 1 it is the factorial of d + 1, which is not 0 modulo 2^w.
use Rattle.std.specs.Prelude.{◌≡◌, refl, pos, ◌*ℤ◌, drop, ℕ, zero, suc, ◌+◌, ◌*◌, ◌/◌, ◌^◌, ◌<◌, List, [], ◌∷◌, ◌++◌, map, ℤ}
use Rattle.std.proofs.Common.{sym, ap, ap₂, ◌∙◌, le_refl, zero-lt-suc, le_of_suc-le-suc, not-suc-le-zero, one-mul, mul-one, zero-add, arith, pow_pos, mul_comm}
use Rattle.std.proofs.Math.Nat.{pow-zero, zero-div}
use Rattle.meaning.specs.Tables.{at}
use Rattle.meaning.specs.Factorials.{factorial, falling, twos, degree_cap_of}
use Rattle.meaning.specs.Values.{product}
use Rattle.meaning.specs.Integers.{residue, powerℤ}
use Rattle.meaning.specs.Stirling.{stirling1}
use Rattle.meaning.specs.Polynomials.{productℤ, Term, terms_at}
use Rattle.theory.specs.Congruence.{Cong, cong_of_eq, cong_sym, cong_trans, cong_add-left, cong_add_right, multiples}
use Rattle.theory.specs.Sums.{sum_cong}
use Rattle.theory.specs.Binomials.{factorial_pos, falling-zero, falling-suc, falling_cong}
use Rattle.theory.specs.Twos.{twos-mul, twos_eq}
use Rattle.theory.specs.DegreeCap.{degree_cap_of_least}
use Rattle.theory.specs.StirlingNumbers.{signed, falling_cong_sum_power}
use Rattle.theory.specs.Evaluation.{at_drop}
use Rattle.theory.specs.Integers.{residue_pos, residue-add}
use Rattle.theory.specs.PowerBoxes.{terms_of, residue-terms_of}
use Rattle.theory.specs.WholeNumbers.{residue-coordinates}

-- the number j for variable i alone
unfoldable pub alone : ℕ → ℕ → List ℕ
alone zero j = j ∷ []
alone (suc i) j = 0 ∷ alone i j

at-alone : (i j : ℕ) → at (alone i j) i ≡ j
unfolding alone
at-alone zero j = refl
at-alone (suc i) j = at-alone i j

-- the falling factorial of variable i to n, in powers
unfoldable pub falling_terms : ℕ → ℕ → List Term
falling_terms i n = terms_of (suc n) (λ j. record { coefficient = stirling1 n j; exponents = alone i j })

-- no exponents, and one
product_none : (k : ℕ) (xs : List ℕ) → product ◌^◌ k xs [] ≡ 1
unfolding product
product_none zero xs = refl
product_none (suc k) xs = ap₂ ◌*◌ (pow-zero (at xs 0)) (product_none k (drop 1 xs))

product-alone : (k i j : ℕ) (xs : List ℕ) → i < k → product ◌^◌ k xs (alone i j) ≡ at xs i ^ j
unfolding product alone
product-alone zero i j xs l = absurd (not-suc-le-zero l)
product-alone (suc k) zero j xs l = ap (at xs 0 ^ j *◌) (product_none k (drop 1 xs)) ∙ mul-one (at xs 0 ^ j)
product-alone (suc k) (suc i) j xs l =
    ap₂ ◌*◌ (pow-zero (at xs 0)) (product-alone k i j (drop 1 xs) (le_of_suc-le-suc l) ∙ ap (◌^ j) (at_drop xs i)) ∙ one-mul (at xs (suc i) ^ j)

module _ {m : ℕ} (positive : 0 < m) (k : ℕ) where
  -- its value is the falling factorial of the coordinate
  residue-falling_terms : (i n : ℕ) (zs : List ℤ) → i < k
      → Cong m (residue m (terms_at k (falling_terms i n) zs)) (falling (at (map (residue m) zs) i) n)
  unfolding falling_terms
  residue-falling_terms i n zs l =
      let x : ℕ = at (map (residue m) zs) i in
      cong_trans (residue-terms_of positive k (suc n) (λ j. record { coefficient = stirling1 n j; exponents = alone i j }) zs)
      (cong_trans (sum_cong (suc n) (λ j q. cong_of_eq m (ap (◌* signed m n j) (product-alone k i j (map (residue m) zs) l) ∙ mul_comm (x ^ j) (signed m n j))))
      (cong_sym (falling_cong_sum_power positive x n n (le_refl n))))

  -- the value of two polynomials added is the sum of theirs
  pub residue-append : (p q : List Term) (zs : List ℤ) → Cong m (residue m (terms_at k (p ++ q) zs)) (residue m (terms_at k p zs) + residue m (terms_at k q zs))
  unfolding terms_at
  residue-append [] q zs =
      let r : ℕ = residue m (terms_at k q zs) in
      cong_trans (cong_of_eq m (sym (zero-add r))) (cong_add_right r (cong_sym (residue_pos positive 0)))
  residue-append (t ∷ p) q zs =
      let a : ℤ = t.coefficient *ℤ productℤ powerℤ k zs t.exponents in
      cong_trans (residue-add positive a (terms_at k (p ++ q) zs))
      (cong_trans (cong_add-left (residue m a) (residue-append p q zs))
      (cong_trans (cong_of_eq m (omega arith)) (cong_add_right (residue m (terms_at k q zs)) (cong_sym (residue-add positive a (terms_at k p zs))))))

-- a number above 0 with fewer than w twos is not 0 modulo 2^w
not_zero_of_twos : (w n : ℕ) → 0 < n → twos n < w → Cong (2 ^ w) n 0 → ⊥
not_zero_of_twos w n h l c = go (n / 2 ^ w) refl
  where
    whole : n ≡ 2 ^ w * (n / 2 ^ w)
    whole = omega (arith, multiples c, ap (◌* 2 ^ w) (zero-div (2 ^ w)))

    go : (k : ℕ) → n / 2 ^ w ≡ k → ⊥
    go zero e = omega (arith, whole, ap (2 ^ w *◌) e)
    go (suc k) e =
        let t : twos n ≡ twos (2 ^ w) + twos (suc k) = ap twos (whole ∙ ap (2 ^ w *◌) e) ∙ twos-mul (2 ^ w) (suc k) (pow_pos w) (zero-lt-suc k) in
        let p : twos (2 ^ w) ≡ w = ap twos (sym (mul-one (2 ^ w))) ∙ twos_eq w 1 refl in
        omega arith

-- below the cap the factorial is not 0 modulo 2^w
factorial-below_cap : (w n : ℕ) → n < degree_cap_of w → Cong (2 ^ w) (factorial n) 0 → ⊥
factorial-below_cap w n l = not_zero_of_twos w (factorial n) (factorial_pos n) ((degree_cap_of_least w).first n l)

-- all factors down to 1
falling_self : (n : ℕ) → falling n n ≡ factorial n
unfolding falling factorial
falling_self zero = refl
falling_self (suc n) = falling-suc n n ∙ ap (suc n *◌) (falling_self n)

module _ (w k i n : ℕ) (l : i < k) where
  coordinate : (xs : List ℕ) → Cong (2 ^ w) (residue (2 ^ w) (terms_at k (falling_terms i n) (map pos xs))) (falling (at xs i) n)
  coordinate xs = cong_trans (residue-falling_terms (pow_pos w) k i n (map pos xs) l) (falling_cong n (residue-coordinates (pow_pos w) xs i))

  -- so it is 0 where the coordinate is below n
  pub falling_terms-zero : (xs : List ℕ) → at xs i < n → Cong (2 ^ w) (residue (2 ^ w) (terms_at k (falling_terms i n) (map pos xs))) 0
  falling_terms-zero xs q = cong_trans (coordinate xs) (cong_of_eq (2 ^ w) (falling-zero (at xs i) n q))

  -- and not 0 at n, below the cap
  pub falling_terms_not_zero : n < degree_cap_of w → Cong (2 ^ w) (residue (2 ^ w) (terms_at k (falling_terms i n) (map pos (alone i n)))) 0 → ⊥
  falling_terms_not_zero h c =
      factorial-below_cap w n h
      (cong_trans (cong_of_eq (2 ^ w) (sym (falling_self n) ∙ ap (λ (x : ℕ). falling x n) (sym (at-alone i n)))) (cong_trans (cong_sym (coordinate (alone i n))) c))
