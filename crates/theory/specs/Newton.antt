-- Newton's series in one variable: its expansion, that it is the only one, and what differences depend on.
-- A series has a fixed number of terms, and its step from x to x + 1 is Pascal's rule (`series-suc`), exactly. Both the expansion and its
-- uniqueness are inductions by that step for all functions at once, with the first difference in place of the function.
use Rattle.std.specs.Prelude.{◌≡◌, refl, ℕ, zero, suc, ◌+◌, ◌*◌, ◌≤◌, ◌<◌}
use Rattle.std.proofs.Common.{sym, ◌∙◌, not-suc-le-zero, le_of_suc-le-suc, arith, zero-le, suc-le-suc, add_comm}
use Rattle.std.proofs.Math.Nat.{le_step}
use Rattle.meaning.specs.Sums.{sum}
use Rattle.meaning.specs.Differences.{diff, diffs}
use Rattle.theory.specs.Congruence.{Cong, cong_of_eq, cong_sym, cong_trans, cong_add, cong_add_cancel_cong, minus-add}
use Rattle.theory.specs.Sums.{sum-add, sum_eq, sum-zero}
use Rattle.theory.specs.Binomials.{choose}

-- Newton's series with n coefficients, at x
unfoldable pub series : ℕ → (ℕ → ℕ) → ℕ → ℕ
unfolding choose sum
series n A x = sum n (λ i. choose x i * A i)

-- a series at 0 is its first coefficient
pub series-zero : (n : ℕ) (A : ℕ → ℕ) → series (suc n) A 0 ≡ A 0
unfolding series
series-zero n A = omega (arith, sum-zero n {f = λ i. 0 * A (suc i)} (λ i p. omega arith))

-- the step from x to x + 1
pub series-suc : (n : ℕ) (A : ℕ → ℕ) (x : ℕ) → series (suc n) A (suc x) ≡ series (suc n) A x + series n (λ i. A (suc i)) x
unfolding series
series-suc n A x =
    let pascal : sum n (λ i. (choose x i + choose x (suc i)) * A (suc i)) ≡ sum n (λ i. choose x i * A (suc i) + choose x (suc i) * A (suc i)) =
    sum_eq n (λ i p. omega arith) in
    omega (arith, pascal, sum-add n (λ i. choose x i * A (suc i)) (λ i. choose x (suc i) * A (suc i)))

-- the difference at the last, as a computation in place takes it
pub diffs-suc : (m n : ℕ) (v : ℕ → ℕ) (x : ℕ) → diffs m (suc n) v x ≡ diff m (diffs m n v) x
unfolding diffs
diffs-suc m zero v x = refl
diffs-suc m (suc n) v x = diffs-suc m n (diff m v) x

module _ {m : ℕ} (pos : 0 < m) where
  -- the first difference and the value make the next value
  pub diff-add : (v : ℕ → ℕ) (x : ℕ) → Cong m (diff m v x + v x) (v (suc x))
  unfolding diff
  diff-add v x = minus-add (v (suc x)) (v x) pos

  -- a function is the series of its differences at 0
  pub newton_expansion : (d : ℕ) (v : ℕ → ℕ) (x : ℕ) → x ≤ d → Cong m (v x) (series (suc d) (λ n. diffs m n v 0) x)
  unfolding diffs
  newton_expansion d v zero h = cong_of_eq m (sym (series-zero d (λ n. diffs m n v 0)))
  newton_expansion zero v (suc x) h = absurd (not-suc-le-zero h)
  newton_expansion (suc d) v (suc x) h =
      cong_trans (cong_sym (diff-add v x))
      (cong_trans
      (cong_add (newton_expansion d (diff m v) x (le_of_suc-le-suc h)) (newton_expansion (suc d) v x (omega arith)))
      (cong_of_eq m (omega (arith, series-suc (suc d) (λ n. diffs m n v 0) x))))

  -- and of no other coefficients
  pub newton_unique : (d n : ℕ) (v A : ℕ → ℕ) → ((x : ℕ) → x ≤ d → Cong m (v x) (series (suc d) A x)) → n ≤ d → Cong m (A n) (diffs m n v 0)
  unfolding diffs
  newton_unique d zero v A h p = cong_sym (cong_trans (h 0 zero-le) (cong_of_eq m (series-zero d A)))
  newton_unique zero (suc n) v A h p = absurd (not-suc-le-zero p)
  newton_unique (suc d) (suc n) v A h p = newton_unique d n (diff m v) (λ i. A (suc i)) step (le_of_suc-le-suc p)
    where
      step : (x : ℕ) → x ≤ d → Cong m (diff m v x) (series (suc d) (λ i. A (suc i)) x)
      step x q =
          cong_add_cancel_cong (h x (le_step q))
          (cong_trans (diff-add v x)
          (cong_trans (h (suc x) (suc-le-suc q)) (cong_of_eq m (series-suc (suc d) A x ∙ add_comm (series (suc (suc d)) A x) _))))
