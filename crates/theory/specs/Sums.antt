-- Laws of finite sums. A sum takes its first term first, and so does every induction here, for all functions at once.
use Rattle.std.specs.Prelude.{◌≡◌, refl, ◌≢◌, ℕ, zero, suc, ◌+◌, ◌*◌, ◌≤◌, ◌<◌}
use Rattle.std.proofs.Common.{sym, ap, ap₂, ◌∙◌, suc-le-suc, zero-le, suc-add, zero-add, zero-mul, suc-mul, zero-lt-suc, not-suc-le-zero, suc-ne-zero, le_of_suc-le-suc, mul_comm, add_comm, arith}
use Rattle.std.proofs.Math.Nat.{suc_inj}
use Rattle.meaning.specs.Sums.{sum}
use Rattle.theory.specs.Congruence.{Cong, cong_refl, cong_add}

-- the last term last
pub sum_last : (n : ℕ) (f : ℕ → ℕ) → sum (suc n) f ≡ sum n f + f n
unfolding sum
sum_last zero f = omega arith
sum_last (suc n) f = omega (arith, sum_last n (λ i. f (suc i)))

-- sums of equal terms are equal
pub sum_eq : (n : ℕ) {f g : ℕ → ℕ} → ((i : ℕ) → i < n → f i ≡ g i) → sum n f ≡ sum n g
unfolding sum
sum_eq zero h = refl
sum_eq (suc n) h = ap₂ ◌+◌ (h 0 (zero-lt-suc n)) (sum_eq n (λ i p. h (suc i) (suc-le-suc p)))

-- sums of congruent terms are congruent
pub sum_cong : {m : ℕ} (n : ℕ) {f g : ℕ → ℕ} → ((i : ℕ) → i < n → Cong m (f i) (g i)) → Cong m (sum n f) (sum n g)
unfolding sum
sum_cong zero h = cong_refl 0
sum_cong (suc n) h = cong_add (h 0 (zero-lt-suc n)) (sum_cong n (λ i p. h (suc i) (suc-le-suc p)))

-- a sum of sums of two terms
pub sum-add : (n : ℕ) (f g : ℕ → ℕ) → sum n (λ i. f i + g i) ≡ sum n f + sum n g
unfolding sum
sum-add zero f g = refl
sum-add (suc n) f g = omega (arith, sum-add n (λ i. f (suc i)) (λ i. g (suc i)))

-- a factor of every term, on the left and on the right
pub sum-mul-left : (n c : ℕ) (f : ℕ → ℕ) → sum n (λ i. c * f i) ≡ c * sum n f
unfolding sum
sum-mul-left zero c f = omega arith
sum-mul-left (suc n) c f = omega (arith, sum-mul-left n c (λ i. f (suc i)))

pub sum-mul_right : (n c : ℕ) (f : ℕ → ℕ) → sum n (λ i. f i * c) ≡ sum n f * c
sum-mul_right n c f = sum_eq n (λ i p. mul_comm (f i) c) ∙ sum-mul-left n c f ∙ mul_comm c (sum n f)

-- a sum of terms with two parts
pub sum_linear : (d n : ℕ) (p q w : ℕ → ℕ) → sum d (λ j. (p j + n * q j) * w j) ≡ sum d (λ j. p j * w j) + n * sum d (λ j. q j * w j)
sum_linear d n p q w =
    sum_eq d (λ j h. term j)
    ∙ sum-add d (λ j. p j * w j) (λ j. n * (q j * w j))
    ∙ ap (sum d (λ j. p j * w j) +◌) (sum-mul-left d n (λ j. q j * w j))
  where
    term : (j : ℕ) → (p j + n * q j) * w j ≡ p j * w j + n * (q j * w j)
    term j = omega arith

-- a sum of zeros
pub sum-zero : (n : ℕ) {f : ℕ → ℕ} → ((i : ℕ) → i < n → f i ≡ 0) → sum n f ≡ 0
unfolding sum
sum-zero zero h = refl
sum-zero (suc n) h = ap₂ ◌+◌ (h 0 (zero-lt-suc n)) (sum-zero n (λ i p. h (suc i) (suc-le-suc p)))

-- two sums change places
pub sum_swap : (n k : ℕ) (f : ℕ → ℕ → ℕ) → sum n (λ i. sum k (λ j. f i j)) ≡ sum k (λ j. sum n (λ i. f i j))
unfolding sum
sum_swap zero k f = sym (sum-zero k (λ i p. refl))
sum_swap (suc n) k f =
    omega (arith, sum_swap n k (λ i. f (suc i)), sum-add k (λ j. f 0 j) (λ j. sum n (λ i. f (suc i) j)))

-- a sum is split after its first n terms
pub sum_split : (n k : ℕ) (f : ℕ → ℕ) → sum (n + k) f ≡ sum n f + sum k (λ i. f (n + i))
unfolding sum
sum_split zero k f = simp zero-add
sum_split (suc n) k f = simp suc-add (omega (arith, sum_split n k (λ i. f (suc i))))

-- a sum of n * k terms in n blocks of k
pub sum-blocks : (n k : ℕ) (f : ℕ → ℕ) → sum (n * k) f ≡ sum n (λ i. sum k (λ j. f (i * k + j)))
unfolding sum
sum-blocks zero k f = simp zero-mul
sum-blocks (suc n) k f =
    ap (λ (x : ℕ). sum x f) (suc-mul n k ∙ add_comm (n * k) k)
    ∙ sum_split k (n * k) f
    ∙ ap₂ ◌+◌ (sum_eq k (λ j p. ap f (omega arith))) (sum-blocks n k (λ x. f (k + x)) ∙ sum_eq n (λ i p. sum_eq k (λ j q. ap f (omega arith))))

-- a sum with one term only that may be other than 0
pub sum_one : (n : ℕ) (f : ℕ → ℕ) (p : ℕ) → p < n → ((i : ℕ) → i < n → i ≢ p → f i ≡ 0) → sum n f ≡ f p
unfolding sum
sum_one zero f p q h = absurd (not-suc-le-zero q)
sum_one (suc n) f zero q h = omega (arith, sum-zero n (λ i r. h (suc i) (suc-le-suc r) (suc-ne-zero i)))
sum_one (suc n) f (suc p) q h =
    omega (
      arith,
      h 0 (zero-lt-suc n) (λ e. suc-ne-zero p (sym e)),
      sum_one n (λ i. f (suc i)) p (le_of_suc-le-suc q) (λ i r s. h (suc i) (suc-le-suc r) (λ e. s (suc_inj e))),
    )

-- a sum of terms that are at most c
pub sum-le : (n c : ℕ) {f : ℕ → ℕ} → ((i : ℕ) → f i ≤ c) → sum n f ≤ n * c
unfolding sum
sum-le zero c h = zero-le
sum-le (suc n) c {f} h = omega (arith, h 0, sum-le n c (λ i. h (suc i)))
