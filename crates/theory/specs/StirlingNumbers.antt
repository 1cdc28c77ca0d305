-- Stirling numbers: powers in falling factorials, falling factorials in powers modulo m, and that the two kinds undo one another.
-- Every law is an induction by the recurrences. The range of a sum goes up to a degree d that is fixed during the induction, so that a shift of
-- the range only has to show that one term vanishes.
use Rattle.std.specs.Prelude.{◌≡◌, ◌⊎◌, pos, ◌-ℤ◌, ◌*ℤ◌, refl, ℕ, zero, suc, ◌+◌, ◌*◌, ◌^◌, ◌≤◌, ◌<◌}
use Rattle.std.proofs.Common.{ap, sym, ap₂, ◌∙◌, inl, inr, not-suc-le-zero, le_of_suc-le-suc, le_refl, le_of_lt, zero-lt-suc, pow-suc, mul_comm, suc-le-suc, mul-zero, zero-mul, arith}
use Rattle.std.proofs.Math.Nat.{zero-mod, pow-zero, pow-succ'}
use Rattle.meaning.specs.Sums.{sum}
use Rattle.meaning.specs.Factorials.{falling}
use Rattle.meaning.specs.Integers.{residue}
use Rattle.meaning.specs.Stirling.{stirling2, stirling1}
use Rattle.theory.specs.Congruence.{Cong, cong_of_eq, cong_sym, cong_trans, cong_add-left, cong_mul-left, cong_mul_right, cong_add_cancel_cong}
use Rattle.theory.specs.Sums.{sum_last, sum_eq, sum_cong, sum-add, sum-mul-left, sum_linear, sum-zero}
use Rattle.theory.specs.Binomials.{falling-zero, mul-falling}
use Rattle.theory.specs.Integers.{residue_pos, residue-mul, residue-sub}

-- 1 where the two are equal, else 0
unfoldable pub delta : ℕ → ℕ → ℕ
delta zero zero = 1
delta zero (suc j) = 0
delta (suc i) zero = 0
delta (suc i) (suc j) = delta i j

-- one is as good as the other where they are equal
delta-mul : (i j : ℕ) → i * delta i j ≡ j * delta i j
unfolding delta
delta-mul zero zero = refl
delta-mul zero (suc j) = omega arith
delta-mul (suc i) zero = omega arith
delta-mul (suc i) (suc j) = omega (arith, delta-mul i j)

-- a sum with one term
pub sum-delta : (n j : ℕ) (c : ℕ → ℕ) → j < n → sum n (λ i. delta i j * c i) ≡ c j
unfolding delta sum
sum-delta zero j c h = absurd (not-suc-le-zero h)
sum-delta (suc n) zero c h = omega (arith, sum-zero n {f = λ i. 0 * c (suc i)} (λ i p. omega arith))
sum-delta (suc n) (suc j) c h = omega (arith, sum-delta n j (λ i. c (suc i)) (le_of_suc-le-suc h))

-- ---- the second kind

-- no falling factorial above the power
pub stirling2-zero : (n j : ℕ) → n < j → stirling2 n j ≡ 0
unfolding stirling2
stirling2-zero n zero h = absurd (not-suc-le-zero h)
stirling2-zero zero (suc j) h = refl
stirling2-zero (suc n) (suc j) h =
    omega (arith, ap (suc j *◌) (stirling2-zero n (suc j) (omega arith)), stirling2-zero n j (le_of_suc-le-suc h))

-- the highest coefficient
pub stirling2_self : (n : ℕ) → stirling2 n n ≡ 1
unfolding stirling2
stirling2_self zero = refl
stirling2_self (suc n) = omega (arith, ap (suc n *◌) (stirling2-zero n (suc n) (le_refl (suc n))), stirling2_self n)

-- a power in falling factorials up to d, where the exponent or the number is at most d
pub power_eq-sum-falling : (x n d : ℕ) → (n ≤ d) ⊎ (x ≤ d) → x ^ n ≡ sum (suc d) (λ j. stirling2 n j * falling x j)
unfolding sum stirling2 falling
power_eq-sum-falling x zero d h = pow-zero x ∙ omega (arith, sum-zero d {f = λ j. 0 * falling x (suc j)} (λ j p. omega arith))
power_eq-sum-falling x (suc n) d h =
    pow-succ' x n
    ∙ ap (x *◌) (power_eq-sum-falling x n d (weaker h))
    ∙ sym (sum-mul-left (suc d) x (λ j. stirling2 n j * falling x j))
    ∙ sum_eq (suc d) (λ j p. term j)
    ∙ sum-add (suc d) P G
    ∙ omega (arith, sum_last d P, last h, sum-add d P (λ j. G (suc j)), parts)
  where
    P : ℕ → ℕ
    P j = stirling2 n j * falling x (suc j)

    G : ℕ → ℕ
    G j = j * (stirling2 n j * falling x j)

    term : (j : ℕ) → x * (stirling2 n j * falling x j) ≡ P j + G j
    term j = omega (arith, ap (stirling2 n j *◌) (mul-falling x j))

    weaker : (suc n ≤ d) ⊎ (x ≤ d) → (n ≤ d) ⊎ (x ≤ d)
    weaker (inl p) = inl (le_of_lt p)
    weaker (inr p) = inr p

    last : (suc n ≤ d) ⊎ (x ≤ d) → P d ≡ 0
    last (inl p) = omega (arith, ap (◌* falling x (suc d)) (stirling2-zero n d p))
    last (inr p) = omega (arith, ap (stirling2 n d *◌) (falling-zero x (suc d) (suc-le-suc p)))

    parts : sum d (λ j. stirling2 (suc n) (suc j) * falling x (suc j)) ≡ sum d (λ j. P j + G (suc j))
    parts = sum_eq d (λ j p. omega arith)

-- ---- the first kind

-- no power above the falling factorial
pub stirling1-zero : (n j : ℕ) → n < j → stirling1 n j ≡ pos 0
unfolding stirling1
stirling1-zero n zero h = absurd (not-suc-le-zero h)
stirling1-zero zero (suc j) h = refl
stirling1-zero (suc n) (suc j) h =
    ap₂ (λ x y. x -ℤ pos n *ℤ y) (stirling1-zero n j (le_of_suc-le-suc h)) (stirling1-zero n (suc j) (omega arith))
    ∙ ap (λ x. pos 0 -ℤ pos x) (mul-zero n)

-- its coefficients modulo m
abbrev pub signed : ℕ → ℕ → ℕ → ℕ
signed m n j = residue m (stirling1 n j)

-- as before, modulo m
pub signed-zero : (m n j : ℕ) → n < j → signed m n j ≡ 0
unfolding residue
signed-zero m n j h = ap (residue m) (stirling1-zero n j h) ∙ zero-mod m

pub signed-suc-zero : (m n : ℕ) → signed m (suc n) 0 ≡ 0
unfolding residue stirling1
signed-suc-zero m n = zero-mod m

-- no constant term
pub mul-signed-zero : (m n : ℕ) → n * signed m n 0 ≡ 0
mul-signed-zero m zero = zero-mul (signed m 0 0)
mul-signed-zero m (suc n) = ap (suc n *◌) (signed-suc-zero m n) ∙ mul-zero (suc n)

-- the first term, or all but the last, where the others vanish
signed-sum-zero : (m d : ℕ) (w : ℕ → ℕ) → sum (suc d) (λ j. signed m 0 j * w j) ≡ signed m 0 0 * w 0
unfolding sum
signed-sum-zero m d w =
    omega (
      arith,
      sum-zero d {f = λ j. signed m 0 (suc j) * w (suc j)}
          (λ j p. ap (◌* w (suc j)) (signed-zero m 0 (suc j) (zero-lt-suc j)) ∙ zero-mul (w (suc j))),
    )

signed-sum_last : (m n d : ℕ) (w : ℕ → ℕ) → n < d → sum (suc d) (λ j. signed m n j * w j) ≡ sum d (λ j. signed m n j * w j)
signed-sum_last m n d w h =
    sum_last d (λ j. signed m n j * w j) ∙ omega (arith, ap (◌* w d) (signed-zero m n d h))

module _ {m : ℕ} (positive : 0 < m) where
  -- the recurrence
  pub signed-step : (n j : ℕ) → Cong m (signed m (suc n) (suc j) + n * signed m n (suc j)) (signed m n j)
  unfolding stirling1
  signed-step n j =
      cong_trans
      (cong_add-left
      (signed m (suc n) (suc j))
      (cong_sym
      (cong_trans
      (residue-mul positive (pos n) (stirling1 n (suc j)))
      (cong_mul_right (signed m n (suc j)) (residue_pos positive n)))))
      (residue-sub positive (stirling1 n j) (pos n *ℤ stirling1 n (suc j)))

  -- the falling factorial without factors is 1
  signed-zero-zero : Cong m (signed m 0 0) 1
  unfolding stirling1
  signed-zero-zero = residue_pos positive 1

  -- the recurrence under a sum
  signed-sum-step : (n d : ℕ) (w : ℕ → ℕ) →
      Cong m
      (sum (suc d) (λ j. signed m (suc n) j * w j) + n * sum (suc d) (λ j. signed m n j * w j))
      (sum d (λ j. signed m n j * w (suc j)))
  unfolding sum
  signed-sum-step n d w =
      cong_trans (cong_of_eq m left) (sum_cong d (λ j p. cong_mul_right (w (suc j)) (signed-step n j)))
    where
      left : sum (suc d) (λ j. signed m (suc n) j * w j) + n * sum (suc d) (λ j. signed m n j * w j)
          ≡ sum d (λ j. (signed m (suc n) (suc j) + n * signed m n (suc j)) * w (suc j))
      left =
          omega (
            arith,
            sum_linear d n (λ j. signed m (suc n) (suc j)) (λ j. signed m n (suc j)) (λ j. w (suc j)),
            ap (◌* w 0) (signed-suc-zero m n),
            ap (◌* w 0) (mul-signed-zero m n),
          )

  -- a falling factorial in powers up to d
  pub falling_cong_sum_power : (x n d : ℕ) → n ≤ d → Cong m (falling x n) (sum (suc d) (λ j. signed m n j * x ^ j))
  unfolding falling
  falling_cong_sum_power x zero d h =
      cong_sym
      (cong_trans (cong_of_eq m (signed-sum-zero m d (λ j. x ^ j)))
      (cong_trans (cong_mul_right (x ^ 0) signed-zero-zero) (cong_of_eq m (ap (1 *◌) (pow-zero x)))))
  falling_cong_sum_power x (suc n) d h =
      let below = falling_cong_sum_power x n d (le_of_lt h) in
      cong_add_cancel_cong (cong_mul-left n below)
      (cong_trans
      (cong_of_eq m (sym (mul-falling x n)))
      (cong_trans (cong_mul-left x below) (cong_trans (cong_of_eq m next) (cong_sym (signed-sum-step n d (λ j. x ^ j))))))
    where
      term : (j : ℕ) → x * (signed m n j * x ^ j) ≡ signed m n j * x ^ suc j
      term j = omega (arith, ap (signed m n j *◌) (pow-suc x j))

      next : x * sum (suc d) (λ j. signed m n j * x ^ j) ≡ sum d (λ j. signed m n j * x ^ suc j)
      next =
          ap (x *◌) (signed-sum_last m n d (λ j. x ^ j) h)
          ∙ sym (sum-mul-left d x (λ j. signed m n j * x ^ j))
          ∙ sum_eq d (λ j p. term j)

  -- ---- the two kinds undo one another

  -- the numbers of the second kind times those of the first, and the other way round
  pub stirling2-mul-signed : (i j d : ℕ) → i ≤ d → Cong m (sum (suc d) (λ e. stirling2 i e * signed m e j)) (delta i j)
  unfolding sum stirling2 delta
  stirling2-mul-signed zero j d h =
      cong_trans
      (cong_of_eq m (omega (arith, sum-zero d {f = λ e. 0 * signed m (suc e) j} (λ e p. omega arith))))
      (first j)
    where
      first : (j : ℕ) → Cong m (signed m 0 j) (delta 0 j)
      first zero = signed-zero-zero
      first (suc j) = cong_of_eq m (signed-zero m 0 (suc j) (zero-lt-suc j))
  stirling2-mul-signed (suc i) zero d h =
      cong_of_eq m
      (omega (arith, sum-zero d (λ e p. ap (stirling2 (suc i) (suc e) *◌) (signed-suc-zero m e) ∙ mul-zero (stirling2 (suc i) (suc e)))))
  stirling2-mul-signed (suc i) (suc j) d h =
      cong_trans (cong_of_eq m (omega (arith, parts)))
      (cong_trans (sum_cong d (λ e p. cong_mul-left (stirling2 i e) (signed-step e j)))
      (cong_trans (cong_of_eq m (sym last)) (stirling2-mul-signed i j d (le_of_lt h))))
    where
      P : ℕ → ℕ
      P e = stirling2 i e * signed m (suc e) (suc j)

      G : ℕ → ℕ
      G e = e * (stirling2 i e * signed m e (suc j))

      split : (e : ℕ) → stirling2 (suc i) (suc e) * signed m (suc e) (suc j) ≡ P e + G (suc e)
      split e = omega arith

      join : (e : ℕ) → P e + G e ≡ stirling2 i e * (signed m (suc e) (suc j) + e * signed m e (suc j))
      join e = omega arith

      none : G d ≡ 0
      none = omega (arith, ap (λ x. d * (x * signed m d (suc j))) (stirling2-zero i d h))

      parts : sum d (λ e. stirling2 (suc i) (suc e) * signed m (suc e) (suc j))
          ≡ sum d (λ e. stirling2 i e * (signed m (suc e) (suc j) + e * signed m e (suc j)))
      parts =
          sum_eq d (λ e p. split e)
          ∙ sum-add d P (λ e. G (suc e))
          ∙ omega (arith, sum_last d G, none, sum-add d P G)
          ∙ sum_eq d (λ e p. join e)

      last : sum (suc d) (λ e. stirling2 i e * signed m e j) ≡ sum d (λ e. stirling2 i e * signed m e j)
      last = sum_last d (λ e. stirling2 i e * signed m e j) ∙ omega (arith, ap (◌* signed m d j) (stirling2-zero i d h))

  pub signed-mul-stirling2 : (i j d : ℕ) → i ≤ d → Cong m (sum (suc d) (λ e. signed m i e * stirling2 e j)) (delta i j)
  unfolding stirling2 delta
  signed-mul-stirling2 zero j d h =
      cong_trans (cong_of_eq m (signed-sum-zero m d (λ e. stirling2 e j)))
      (cong_trans (cong_mul_right (stirling2 0 j) signed-zero-zero) (cong_of_eq m (first j)))
    where
      first : (j : ℕ) → 1 * stirling2 0 j ≡ delta 0 j
      first zero = refl
      first (suc j) = refl
  signed-mul-stirling2 (suc i) zero d h =
      cong_add_cancel_cong
      (cong_trans (cong_mul-left i (signed-mul-stirling2 i zero d (le_of_lt h))) (cong_of_eq m (delta-mul i zero ∙ zero-mul (delta i 0))))
      (cong_trans (signed-sum-step i d (λ e. stirling2 e 0)) (cong_of_eq m (sum-zero d (λ e p. mul-zero (signed m i e)))))
  signed-mul-stirling2 (suc i) (suc j) d h =
      let here = signed-mul-stirling2 i (suc j) d (le_of_lt h) in
      cong_trans
      (cong_add_cancel_cong
      (cong_trans (cong_mul-left i here) (cong_trans (cong_of_eq m (delta-mul i (suc j))) (cong_mul-left (suc j) (cong_sym here))))
      (cong_trans (signed-sum-step i d (λ e. stirling2 e (suc j))) (cong_of_eq m parts)))
      (signed-mul-stirling2 i j d (le_of_lt h))
    where
      split : (e : ℕ) → signed m i e * stirling2 (suc e) (suc j) ≡ (stirling2 e j + suc j * stirling2 e (suc j)) * signed m i e
      split e = omega arith

      whole : (j : ℕ) → sum d (λ e. stirling2 e j * signed m i e) ≡ sum (suc d) (λ e. signed m i e * stirling2 e j)
      whole j = sum_eq d (λ e p. mul_comm (stirling2 e j) (signed m i e)) ∙ sym (signed-sum_last m i d (λ e. stirling2 e j) h)

      parts : sum d (λ e. signed m i e * stirling2 (suc e) (suc j))
          ≡ sum (suc d) (λ e. signed m i e * stirling2 e j) + suc j * sum (suc d) (λ e. signed m i e * stirling2 e (suc j))
      parts =
          sum_eq d (λ e p. split e)
          ∙ sum_linear d (suc j) (λ e. stirling2 e j) (λ e. stirling2 e (suc j)) (λ e. signed m i e)
          ∙ ap₂ (λ x y. x + suc j * y) (whole j) (whole (suc j))
