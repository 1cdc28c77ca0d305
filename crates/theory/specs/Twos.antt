-- The twos and the odd part of a number, and Legendre's count of the twos in a factorial.
-- Every number above 0 is a power of two times an odd number in one way (`split`, `twos_eq`, `odd_part-eq`), so both are found by writing a
-- number so. Legendre's count goes by induction: from k to k + 1 the ones of k and the twos of k + 1 change places (`ones_suc`).
use Rattle.std.specs.Prelude.{◌≡◌, refl, ◌⊎◌, ℕ, zero, suc, ◌+◌, ◌*◌, ◌/◌, ◌%◌, ◌^◌, ◌<◌}
use Rattle.std.proofs.Common.{sym, ◌∙◌, ap, ap₂, inl, inr, ⊎_elim, mul_assoc, one-mul, le_of_suc-le-suc, not-suc-le-zero, le-mul_of_pos_right, zero-lt-suc, mod-lt, add_comm, mul_comm, lt_of_lt_of_le, lt_of_not-le, lt_irrefl, add-one, arith, pow_pos, pow-add, pow_mono}
use Rattle.std.proofs.Math.Nat.{pow-succ', mul-div_cancel_left, mul-mul-mul_comm}
use Rattle.std.proofs.Math.Arith.{bin_ind}
use Rattle.std.specs.Int.Count.{ones, ones_step, under, count_trailing_zeros}
use Rattle.meaning.specs.Factorials.{factorial, twos_of, twos, odd_part}
use Rattle.theory.specs.Congruence.{cong_mul}
use Rattle.theory.specs.Binomials.{factorial_pos}

-- n is 2^power times an odd number
pub record Split (n : ℕ) : Type 0 where
  pub power : ℕ
  pub odd : ℕ
  pub whole : n ≡ 2 ^ power * odd
  pub is_odd : odd % 2 ≡ 1

-- half of a number with one two more
double : (a o : ℕ) → 2 ^ suc a * o ≡ 2 * (2 ^ a * o)
double a o = ap (◌* o) (pow-succ' 2 a) ∙ mul_assoc 2 (2 ^ a) o

-- the count of twos stops at the odd number
twos_of-eq : (d a o : ℕ) → o % 2 ≡ 1 → a < d → twos_of d (2 ^ a * o) ≡ a
unfolding twos_of
twos_of-eq zero a o e h = absurd (not-suc-le-zero h)
twos_of-eq (suc d) zero o e h =
    let p : (2 ^ 0 * o) % 2 ≡ 1 = ap (◌% 2) (one-mul o) ∙ e in
    rw (p, twos_of)
twos_of-eq (suc d) (suc a) o e h =
    let p : (2 ^ suc a * o) % 2 ≡ 0 = omega (arith, double a o) in
    let q : 2 ^ suc a * o / 2 ≡ 2 ^ a * o = omega (arith, double a o) in
    rw (p, q, twos_of) (ap suc (twos_of-eq d a o e (le_of_suc-le-suc h)))

lt_two_pow : (a : ℕ) → a < 2 ^ a
lt_two_pow zero = zero-lt-suc 0
lt_two_pow (suc a) = rw (pow-succ' 2 a) (omega (arith, lt_two_pow a))

odd_pos : (o : ℕ) → o % 2 ≡ 1 → 0 < o
odd_pos o e = omega arith

-- the twos and the odd part of a power of two times an odd number
pub twos_eq : (a o : ℕ) → o % 2 ≡ 1 → twos (2 ^ a * o) ≡ a
unfolding twos
twos_eq a o e =
    twos_of-eq (2 ^ a * o) a o e
    (omega (arith, lt_two_pow a, le-mul_of_pos_right (2 ^ a) (odd_pos o e)))

pub odd_part-eq : (a o : ℕ) → o % 2 ≡ 1 → odd_part (2 ^ a * o) ≡ o
unfolding odd_part
odd_part-eq a o e = rw (twos_eq a o e) (mul-div_cancel_left o (pow_pos a))

-- a remainder by 2 is 0 or 1
pub even_or_odd : (n : ℕ) → (n % 2 ≡ 0) ⊎ (n % 2 ≡ 1)
even_or_odd n = go (n % 2) (mod-lt n (zero-lt-suc 1))
  where
    go : (r : ℕ) → r < 2 → (r ≡ 0) ⊎ (r ≡ 1)
    go zero h = inl refl
    go (suc zero) h = inr refl
    go (suc (suc r)) h = absurd (not-suc-le-zero (le_of_suc-le-suc (le_of_suc-le-suc h)))

-- every number above 0 is a power of two times an odd number
pub split : (n : ℕ) → 0 < n → Split n
split = bin_ind (λ (n : ℕ). 0 < n → Split n) (λ h. absurd (not-suc-le-zero h)) step
  where
    twice : (n : ℕ) → n % 2 ≡ 0 → Split (n / 2) → Split n
    twice n e s =
        record {
          power = suc s.power;
          odd = s.odd;
          whole = omega (arith, double s.power s.odd, s.whole);
          is_odd = s.is_odd;
        }

    step : (n : ℕ) → (0 < n / 2 → Split (n / 2)) → 0 < n → Split n
    step n ih h =
        ⊎_elim (λ (e : n % 2 ≡ 0). twice n e (ih (omega arith)))
        (λ (e : n % 2 ≡ 1). record { power = 0; odd = n; whole = sym (one-mul n); is_odd = e }) (even_or_odd n)

-- a number above 0 is 2^twos times its odd part, which is odd
pub twos-odd_part : (n : ℕ) → 0 < n → n ≡ 2 ^ twos n * odd_part n
twos-odd_part n h =
    let s = split n h in
    let e : twos n ≡ s.power = ap twos s.whole ∙ twos_eq s.power s.odd s.is_odd in
    let f : odd_part n ≡ s.odd = ap odd_part s.whole ∙ odd_part-eq s.power s.odd s.is_odd in
    s.whole ∙ sym (ap₂ (λ (a o : ℕ). 2 ^ a * o) e f)

pub odd_part-odd : (n : ℕ) → 0 < n → odd_part n % 2 ≡ 1
odd_part-odd n h =
    let s = split n h in
    ap (λ (x : ℕ). odd_part x % 2) s.whole ∙ ap (◌% 2) (odd_part-eq s.power s.odd s.is_odd) ∙ s.is_odd

-- a product of odd numbers is odd
pub odd-mul : (a b : ℕ) → a % 2 ≡ 1 → b % 2 ≡ 1 → (a * b) % 2 ≡ 1
odd-mul a b h k = (cong_mul {m = 2} {b = 1} {d = 1} (record { same = h }) (record { same = k })).same

-- the parts of a product
module _ (m n : ℕ) (p : 0 < m) (q : 0 < n) where
  parts_mul : m * n ≡ 2 ^ (twos m + twos n) * (odd_part m * odd_part n)
  parts_mul =
      ap₂ ◌*◌ (twos-odd_part m p) (twos-odd_part n q)
      ∙ mul-mul-mul_comm (2 ^ twos m) (odd_part m) (2 ^ twos n) (odd_part n)
      ∙ ap (◌* (odd_part m * odd_part n)) (sym (pow-add 2 (twos m) (twos n)))

  pub twos-mul : twos (m * n) ≡ twos m + twos n
  twos-mul = ap twos parts_mul ∙ twos_eq _ _ (odd-mul _ _ (odd_part-odd m p) (odd_part-odd n q))

  pub odd_part-mul : odd_part (m * n) ≡ odd_part m * odd_part n
  odd_part-mul = ap odd_part parts_mul ∙ odd_part-eq (twos m + twos n) _ (odd-mul _ _ (odd_part-odd m p) (odd_part-odd n q))

-- ---- counting zeros

-- the zeros at the end of k digits are the twos among them
pub trailing_twos_of : (k n : ℕ) → count_trailing_zeros k n ≡ twos_of k n
unfolding count_trailing_zeros twos_of
trailing_twos_of zero n = refl
trailing_twos_of (suc k) n = go (n % 2) (trailing_twos_of k (n / 2))
  where
    go : (r : ℕ) → count_trailing_zeros k (n / 2) ≡ twos_of k (n / 2)
        → under r (count_trailing_zeros k (n / 2)) ≡ elim r [ zero ↦ suc (twos_of k (n / 2)) | suc r ↦ 0 ]
    go zero e = ap suc e
    go (suc r) e = refl

-- the zeros at the end of a number of k binary digits are its twos
pub trailing_eq-twos : (k n : ℕ) → 0 < n → n < 2 ^ k → count_trailing_zeros k n ≡ twos n
trailing_eq-twos k n h l =
    let o = odd_part-odd n h in
    let e = twos-odd_part n h in
    let low : 2 ^ twos n < 2 ^ k = omega (arith, e, le-mul_of_pos_right (2 ^ twos n) (odd_pos (odd_part n) o)) in
    trailing_twos_of k n ∙ ap (twos_of k) e ∙ twos_of-eq k (twos n) (odd_part n) o (lt_of_not-le (λ p. lt_irrefl _ (lt_of_lt_of_le low (pow_mono p))))

-- one factor more
pub twos-factorial : (k : ℕ) → twos (factorial (k + 1)) ≡ twos (factorial k) + twos (k + 1)
unfolding factorial
twos-factorial k = rw (add-one k) (twos-mul (suc k) (factorial k) (zero-lt-suc k) (factorial_pos k) ∙ add_comm (twos (suc k)) (twos (factorial k)))

pub odd_part-factorial : (k : ℕ) → odd_part (factorial (k + 1)) ≡ odd_part (factorial k) * odd_part (k + 1)
unfolding factorial
odd_part-factorial k =
    rw (add-one k) (odd_part-mul (suc k) (factorial k) (zero-lt-suc k) (factorial_pos k) ∙ mul_comm (odd_part (suc k)) (odd_part (factorial k)))

-- ---- Legendre

-- from k to k + 1
ones_suc : (k : ℕ) → ones (suc k) + twos (suc k) ≡ suc (ones k)
unfolding twos ones
ones_suc = bin_ind (λ (k : ℕ). ones (suc k) + twos (suc k) ≡ suc (ones k)) refl step
  where
    even : (k : ℕ) → k % 2 ≡ 0 → ones (suc k) + twos (suc k) ≡ suc (ones k)
    even k e =
        let t : twos (suc k) ≡ 0 = ap twos (sym (one-mul (suc k))) ∙ twos_eq 0 (suc k) (omega arith) in
        let h : suc k / 2 ≡ k / 2 = omega arith in
        omega (arith, ones_step (suc k), ones_step k, ap ones h)

    odd : (k : ℕ) → k % 2 ≡ 1 → ones (suc (k / 2)) + twos (suc (k / 2)) ≡ suc (ones (k / 2)) → ones (suc k) + twos (suc k) ≡ suc (ones k)
    odd k e ih =
        let d : suc k ≡ 2 * suc (k / 2) = omega arith in
        let t : twos (suc k) ≡ 1 + twos (suc (k / 2)) = ap twos d ∙ twos-mul 2 (suc (k / 2)) (zero-lt-suc 1) (zero-lt-suc (k / 2)) in
        let h : suc k / 2 ≡ suc (k / 2) = omega arith in
        omega (arith, ones_step (suc k), ones_step k, ap ones h)

    step : (k : ℕ) → ones (suc (k / 2)) + twos (suc (k / 2)) ≡ suc (ones (k / 2)) → ones (suc k) + twos (suc k) ≡ suc (ones k)
    step k ih = ⊎_elim (λ (e : k % 2 ≡ 0). even k e) (λ (e : k % 2 ≡ 1). odd k e ih) (even_or_odd k)

-- Legendre: the twos in k! and the ones of k make k
pub legendre : (k : ℕ) → twos (factorial k) + ones k ≡ k
unfolding factorial twos ones
legendre zero = refl
legendre (suc k) =
    let t = twos-mul (suc k) (factorial k) (zero-lt-suc k) (factorial_pos k) in
    omega (arith, t, ones_suc k, legendre k)
