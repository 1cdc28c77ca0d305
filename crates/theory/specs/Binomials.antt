-- Binomial coefficients, by Pascal's rule, and falling factorials.
-- A falling factorial is a factorial times a binomial coefficient. The one law with a case split is `mul-falling`: where n is above x the cut
-- difference x - n stands beside a factor 0.
use Rattle.std.specs.Prelude.{◌≡◌, refl, ◌⊎◌, ℕ, zero, suc, ◌+◌, ◌-◌, ◌*◌, ◌≤◌, ◌<◌}
use Rattle.std.proofs.Common.{sym, ap, ◌∙◌, inl, inr, zero-lt-suc, not-suc-le-zero, le_of_suc-le-suc, le_refl, mul-pos, sub-add_cancel, eq-or-lt_of_le, le_of_eq, sub-eq-zero_of_le, lt_of_not-le, arith}
use Rattle.std.proofs.Math.Nat.{suc-sub-suc}
use Rattle.std.proofs.Math.Decide.{dec_le}
use Rattle.meaning.specs.Factorials.{factorial, falling}
use Rattle.theory.specs.Congruence.{Cong, cong_of_eq, cong_refl, cong_trans, cong_mul, cong_mul-left, cong_add_cancel_cong}

-- how many sets of n there are among x things
unfoldable pub choose : ℕ → ℕ → ℕ
choose x zero = 1
choose zero (suc n) = 0
choose (suc x) (suc n) = choose x n + choose x (suc n)

-- there is no set of more than x things
pub choose-zero : (x n : ℕ) → x < n → choose x n ≡ 0
unfolding choose
choose-zero x zero h = absurd (not-suc-le-zero h)
choose-zero zero (suc n) h = refl
choose-zero (suc x) (suc n) h = omega (arith, choose-zero x n (le_of_suc-le-suc h), choose-zero x (suc n) (omega arith))

-- and one of all
pub choose_self : (n : ℕ) → choose n n ≡ 1
unfolding choose
choose_self zero = refl
choose_self (suc n) = omega (arith, choose_self n, choose-zero n (suc n) (le_refl (suc n)))

-- x times the binomial coefficient
pub mul-choose : (x n : ℕ) → x * choose x n ≡ suc n * choose x (suc n) + n * choose x n
unfolding choose
mul-choose zero zero = refl
mul-choose zero (suc n) = omega arith
mul-choose (suc x) zero = omega (arith, mul-choose x 0)
mul-choose (suc x) (suc n) = omega (arith, mul-choose x n, mul-choose x (suc n))

-- a factorial is above 0
pub factorial_pos : (n : ℕ) → 0 < factorial n
unfolding factorial
factorial_pos zero = zero-lt-suc 0
factorial_pos (suc n) = mul-pos (zero-lt-suc n) (factorial_pos n)

-- a falling factorial with more factors than x is 0
pub falling-zero : (x n : ℕ) → x < n → falling x n ≡ 0
unfolding falling
falling-zero x zero h = absurd (not-suc-le-zero h)
falling-zero x (suc n) h = go (eq-or-lt_of_le (le_of_suc-le-suc h)) (falling-zero x n)
  where
    go : (x ≡ n) ⊎ (x < n) → (x < n → falling x n ≡ 0) → falling x n * (x - n) ≡ 0
    go (inl e) r = omega (arith, ap (falling x n *◌) (sub-eq-zero_of_le (le_of_eq e)))
    go (inr l) r = omega (arith, ap (◌* (x - n)) (r l))

-- x times the falling factorial
pub mul-falling : (x n : ℕ) → x * falling x n ≡ falling x (suc n) + n * falling x n
unfolding falling
mul-falling x n = go (dec_le n x)
  where
    go : Dec (n ≤ x) → x * falling x n ≡ falling x n * (x - n) + n * falling x n
    go (yes h) = omega (arith, ap (falling x n *◌) (sub-add_cancel h))
    go (no h) = rw (falling-zero x n (lt_of_not-le h)) (omega arith)

-- the first factor first
pub falling-suc : (x n : ℕ) → falling (suc x) (suc n) ≡ suc x * falling x n
unfolding falling
falling-suc x zero = omega arith
falling-suc x (suc n) = omega (arith, ap (◌* (x - n)) (falling-suc x n), ap (falling (suc x) (suc n) *◌) (suc-sub-suc x n))

-- falling factorials are binomial coefficients times factorials
pub falling-eq-factorial-mul-choose : (x n : ℕ) → falling x n ≡ factorial n * choose x n
unfolding choose factorial falling
falling-eq-factorial-mul-choose x zero = refl
falling-eq-factorial-mul-choose zero (suc n) = falling-zero 0 (suc n) (zero-lt-suc n) ∙ omega arith
falling-eq-factorial-mul-choose (suc x) (suc n) =
    omega (arith, falling-suc x n, mul-falling x n, ap (suc n *◌) (falling-eq-factorial-mul-choose x n), falling-eq-factorial-mul-choose x (suc n))

-- a falling factorial depends on x modulo m only
pub falling_cong : {m x y : ℕ} (n : ℕ) → Cong m x y → Cong m (falling x n) (falling y n)
unfolding falling
falling_cong zero h = cong_refl 1
falling_cong {m} {x} {y} (suc n) h =
    let below = falling_cong n h in
    cong_add_cancel_cong (cong_mul-left n below)
    (cong_trans (cong_of_eq m (sym (mul-falling x n))) (cong_trans (cong_mul h below) (cong_of_eq m (mul-falling y n))))
