-- Linear systems modulo m, as functions of row and column. A vector in the kernel makes every row 0; a solution of a system whose right side is
-- the column after the last is a kernel vector with m - 1 there. Subtracting a multiple of one row from another keeps the kernel.
use Rattle.std.specs.Prelude.{◌≡◌, ◌↔◌, Bool, cond, ℕ, suc, ◌+◌, ◌*◌, ◌-◌, ◌<◌, ltb}
use Rattle.std.proofs.Common.{sym, ap, ap₂, ◌∙◌, le_refl, add_comm, zero-add, arith, lt-ltb, le-ltb}
use Rattle.meaning.specs.Sums.{sum}
use Rattle.meaning.specs.Differences.{minus}
use Rattle.theory.specs.Congruence.{Cong, cong_of_eq, cong_sym, cong_trans, cong_add-left, cong_add_cancel, cong_mul_right, cong_mul-zero, minus-add, minus-lt, eq_of_cong}
use Rattle.theory.specs.Sums.{sum_eq, sum_cong, sum-add, sum-mul-left, sum_last}

-- v makes every row 0, over n columns
pub record Kernel (m rows n : ℕ) (A : ℕ → ℕ → ℕ) (v : ℕ → ℕ) : Type 0 where
  pub vanishes : (i : ℕ) → i < rows → Cong m (sum n (λ j. A i j * v j)) 0

-- x solves every row: the right side is the column after the last
pub record Solves (m rows cols : ℕ) (A : ℕ → ℕ → ℕ) (x : ℕ → ℕ) : Type 0 where
  pub holds : (i : ℕ) → i < rows → Cong m (sum cols (λ c. A i c * x c)) (A i cols)

-- the vector of x with m - 1 behind its first `cols` entries
abbrev pub extended : ℕ → ℕ → (ℕ → ℕ) → ℕ → ℕ
extended m cols x j = cond (ltb j cols) (x j) (m - 1)

-- a row of the extended vector
extended-sum : (m cols : ℕ) (a x : ℕ → ℕ) → sum (suc cols) (λ j. a j * extended m cols x j) ≡ sum cols (λ c. a c * x c) + a cols * (m - 1)
extended-sum m cols a x =
    sum_last cols (λ j. a j * extended m cols x j)
    ∙ ap₂ ◌+◌
    (sum_eq cols (λ j p. ap (λ (b : Bool). a j * cond b (x j) (m - 1)) (lt-ltb j cols p)))
    (ap (λ (b : Bool). a cols * cond b (x cols) (m - 1)) (le-ltb cols cols (le_refl cols)))

-- a number and m - 1 times it make a multiple of m
less_one : (m a : ℕ) → 0 < m → Cong m (a * (m - 1) + a) 0
less_one m a p =
    let e : m ≡ (m - 1) + 1 = omega arith in
    cong_trans (cong_of_eq m (omega (arith, ap (a *◌) e))) (cong_mul-zero m a)

-- a solution is a kernel vector with m - 1 at the right side
pub solves-iff_kernel : {m rows cols : ℕ} {A : ℕ → ℕ → ℕ} {x : ℕ → ℕ} → 0 < m
    → Solves m rows cols A x ↔ Kernel m rows (suc cols) A (extended m cols x)
solves-iff_kernel {m} {rows} {cols} {A} {x} p = (there, back)
  where
    there : Solves m rows cols A x → Kernel m rows (suc cols) A (extended m cols x)
    there s =
        record {
          vanishes =
              λ i h.
              cong_trans (cong_of_eq m (extended-sum m cols (A i) x ∙ add_comm _ _))
              (cong_trans (cong_add-left (A i cols * (m - 1)) (s.holds i h)) (less_one m (A i cols) p));
        }

    back : Kernel m rows (suc cols) A (extended m cols x) → Solves m rows cols A x
    back k =
        record {
          holds =
              λ i h.
              cong_add_cancel (A i cols * (m - 1))
              (cong_trans (cong_of_eq m (sym (extended-sum m cols (A i) x)))
              (cong_trans (k.vanishes i h)
              (cong_trans (cong_sym (less_one m (A i cols) p)) (cong_of_eq m (add_comm (A i cols * (m - 1)) (A i cols))))));
        }

-- ---- rows

-- the row a less q times the row b, with q times b, is a
pub row_minus : {m : ℕ} (n : ℕ) (a b v : ℕ → ℕ) (q : ℕ) → 0 < m
    → Cong m (sum n (λ j. minus m (a j) (q * b j) * v j) + q * sum n (λ j. b j * v j)) (sum n (λ j. a j * v j))
row_minus {m} n a b v q p =
    cong_trans
    (cong_of_eq m
    (ap (sum n (λ j. minus m (a j) (q * b j) * v j) +◌) (sym (sum-mul-left n q (λ j. b j * v j)))
    ∙ sym (sum-add n (λ j. minus m (a j) (q * b j) * v j) (λ j. q * (b j * v j)))))
    (sum_cong n (λ j h.
    cong_trans (cong_of_eq m (together j)) (cong_mul_right (v j) (minus-add (a j) (q * b j) p))))
  where
    together : (j : ℕ) → minus m (a j) (q * b j) * v j + q * (b j * v j) ≡ (minus m (a j) (q * b j) + q * b j) * v j
    together j = omega arith

-- the difference of congruent numbers is 0
pub minus_of_cong : {m a b : ℕ} → 0 < m → Cong m a b → minus m a b ≡ 0
minus_of_cong {m} {a} {b} p h =
    eq_of_cong (minus-lt a b p) p
    (cong_add_cancel b (cong_trans (minus-add a b p) (cong_trans h (cong_of_eq m (sym (zero-add b))))))
