-- What is done at one cell (`Done`), by each job: what a mask keeps of a number or a sum, what is over a bound, and in which bits two numbers differ.
use Rattle.std.proofs.Common.{◌≡◌, ℕ, ◌+◌, ◌-◌, ◌%◌, ◌^◌, ◌<◌, ◌≤◌, Bool, true, false, ◌&&◌, eqb, ltb, List, length, set, sym, refl, ap, ◌∙◌, mod-lt, mod-eq_of_lt, lt_of_not-le, arith, pow_pos, le-ltb, lt-ltb, eq-eqb, ne_eqb, eqb-true, get_or-set_same, get_or-set_other, ◌==◌, nat_lt}
use Rattle.std.specs.Prelude.{bit_and, bit_or, bit_xor}
use Rattle.std.proofs.Math.Decide.{dec_le}
use Rattle.std.specs.Int.Bits.{and_mask, or_add_and, xor_add_and, xor_self, xor_mod, and_le_l, and_le_r}
use borrow.Author.Tests.{eqb-false}
use Rattle.meaning.specs.Tables.{at}
use Rattle.theory.specs.Words.{low_bits}
use Rattle.box_rows.specs.Jobs.{Done}

-- what a mask keeps
pub masked_number : (x w mask : ℕ) → mask ≡ 2 ^ w - 1 → bit_and x mask ≡ x % 2 ^ w
masked_number x w mask e = ap (bit_and x) e ∙ and_mask x w

-- the same of a sum of 64 bits
masked_sum : (x w mask : ℕ) → w ≤ 64 → mask ≡ 2 ^ w - 1 → bit_and (x % 2 ^ 64) mask ≡ x % 2 ^ w
masked_sum x w mask h m = masked_number (x % 2 ^ 64) w mask m ∙ low_bits x w h

-- two numbers have no bit together where neither has
pub or_zero : (a b : ℕ) → eqb (bit_or a b) 0 ≡ (eqb a 0 && eqb b 0)
or_zero a b = go (eqb a 0) (eqb b 0) refl refl
  where
    go : (x y : Bool) → eqb a 0 ≡ x → eqb b 0 ≡ y → eqb (bit_or a b) 0 ≡ (x && y)
    go true true e f = eq-eqb (bit_or a b) 0 (omega (arith, or_add_and a b, eqb-true a 0 e, eqb-true b 0 f))
    go true false e f = ne_eqb (bit_or a b) 0 (λ z. eqb-false b 0 f (omega (arith, z, or_add_and a b, and_le_l a b, eqb-true a 0 e)))
    go false y e f = ne_eqb (bit_or a b) 0 (λ z. eqb-false a 0 e (omega (arith, z, or_add_and a b, and_le_r a b)))

-- two numbers differ in no bit where they are equal
xor_zero : (a b : ℕ) → eqb (bit_xor a b) 0 ≡ eqb a b
xor_zero a b = go (eqb a b) refl
  where
    go : (x : Bool) → eqb a b ≡ x → eqb (bit_xor a b) 0 ≡ x
    go true e = eq-eqb (bit_xor a b) 0 (ap (bit_xor a) (sym (eqb-true a b e)) ∙ xor_self a)
    go false e = ne_eqb (bit_xor a b) 0 (λ z. eqb-false a b e (omega (arith, z, xor_add_and a b, and_le_l a b, and_le_r a b)))

-- nothing is over the bound where a number is below it
over_zero : (x w mask : ℕ) → mask ≡ 2 ^ w - 1 → eqb (x - bit_and x mask) 0 ≡ ltb x (2 ^ w)
over_zero x w mask e = go (dec_le (2 ^ w) x)
  where
    low : bit_and x mask ≡ x % 2 ^ w
    low = masked_number x w mask e

    go : Dec (2 ^ w ≤ x) → eqb (x - bit_and x mask) 0 ≡ ltb x (2 ^ w)
    go (yes h) = ne_eqb (x - bit_and x mask) 0 (λ z. omega (arith, z, low, mod-lt x (pow_pos w))) ∙ sym (le-ltb x (2 ^ w) h)
    go (no h) = eq-eqb (x - bit_and x mask) 0 (omega (arith, low, mod-eq_of_lt (lt_of_not-le h))) ∙ sym (lt-ltb x (2 ^ w) (lt_of_not-le h))

-- no bits below the bound differ where two numbers are equal modulo it
differ_zero : (x y w mask : ℕ) → mask ≡ 2 ^ w - 1 → eqb (bit_and (bit_xor x y) mask) 0 ≡ eqb (x % 2 ^ w) (y % 2 ^ w)
differ_zero x y w mask e = ap (λ (k : ℕ). eqb k 0) (masked_number (bit_xor x y) w mask e ∙ xor_mod x y w) ∙ xor_zero (x % 2 ^ w) (y % 2 ^ w)

-- ---- the jobs

-- a number is put into the table, and no test is made
module _ (f : ℕ → ℕ → ℕ → ℕ) (k i : ℕ) (t : List ℕ) where
  put_done : (v : ℕ) → i < length t → v ≡ f (2 ^ k) i (at t i) → Done f (λ m j. true) (2 ^ k) i t (set t i v) 0
  put_done v h e = record { test = refl; here = get_or-set_same t i v 0 h ∙ e; others = λ j n. get_or-set_other t i j v 0 n }

-- a test is made, and the table is as it was
test_done : (p : ℕ → ℕ → Bool) (k i : ℕ) (t : List ℕ) (found : ℕ) → eqb found 0 ≡ p (2 ^ k) i → Done (λ m j x. x) p (2 ^ k) i t t found
test_done p k i t found e = record { test = e; here = refl; others = λ j n. refl }

module _ (k mask i : ℕ) (small : k ≤ 64) (ones : mask ≡ 2 ^ k - 1) where
  pub sum_done : (a b t : List ℕ) → i < length t
      → Done (λ m j x. (at a j + at b j) % m) (λ m j. true) (2 ^ k) i t (set t i (bit_and ((at a i + at b i) % 2 ^ 64) mask)) 0
  sum_done a b t h = put_done (λ m j x. (at a j + at b j) % m) k i t _ h (masked_sum (at a i + at b i) k mask small ones)

  pub reduction_done : (t : List ℕ) → i < length t → Done (λ m j x. x % m) (λ m j. true) (2 ^ k) i t (set t i (bit_and (at t i) mask)) 0
  reduction_done t h = put_done (λ m j x. x % m) k i t _ h (masked_number (at t i) k mask ones)

  pub bounded_done : (c t : List ℕ) → Done (λ m j x. x) (λ m j. nat_lt (at c j) m) (2 ^ k) i t t (at c i - bit_and (at c i) mask)
  bounded_done c t = test_done (λ m j. nat_lt (at c j) m) k i t _ (over_zero (at c i) k mask ones)

  pub agreement_done : (a b t : List ℕ) → Done (λ m j x. x) (λ m j. at a j % m == at b j % m) (2 ^ k) i t t (bit_and (bit_xor (at a i) (at b i)) mask)
  agreement_done a b t = test_done (λ m j. at a j % m == at b j % m) k i t _ (differ_zero (at a i) (at b i) k mask ones)
