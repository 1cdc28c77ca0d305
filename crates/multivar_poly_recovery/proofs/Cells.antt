-- One difference by masks and shifts. A weight of the width or more is one case, a lower one the other.
use Rattle.std.proofs.Common.{◌≡◌, ℕ, zero, suc, ◌+◌, ◌-◌, ◌*◌, ◌/◌, ◌%◌, ◌^◌, ◌<◌, ◌≤◌, min, Bool, true, false, eqb, ◌⊎◌, sym, refl, ap, ◌∙◌, ap₂, inl, inr, le_of_lt, mod-lt, mod-eq_of_lt, eq-or-lt_of_le, mul-one, arith, pow_pos, pow_mono, eq-eqb, ne_eqb}
use Rattle.std.proofs.Math.Nat.{min-eq_left, min-eq_right, mod-mod, mod-one}
use Rattle.std.specs.Int.Count.{count_trailing_zeros}
use Rattle.std.specs.Int.Bits.{and_mask}
use Rattle.std.proofs.Math.Pow.{pow-lt, split}
use Rattle.meaning.specs.Factorials.{twos}
use Rattle.theory.specs.Words.{low_bits}
use Rattle.theory.specs.Twos.{twos_eq, trailing_eq-twos}
use Rattle.box_rows.specs.Rows.{mask-less}
use Rattle.std.specs.Prelude.{bit_and, Some, None}
use Rattle.multivar_poly_recovery.specs.Extracted.{Mask, cell_of}

coefficient-eq : (b : Bool) (n v : ℕ) → b ≡ true → n ≡ v → Some n ≡ cell_of b v
coefficient-eq b n v e f = ap Some f ∙ sym (ap (λ (x : Bool). cell_of x v) e)

refused-eq : (b : Bool) (v : ℕ) → b ≡ false → None ≡ cell_of b v
refused-eq b v e = sym (ap (λ (x : Bool). cell_of x v) e)

module _ (x w mask : ℕ) (small : w ≤ 64) (e : mask ≡ 2 ^ min w 64 - 1) where
  ones : mask ≡ 2 ^ w - 1
  ones = e ∙ ap (λ (k : ℕ). 2 ^ k - 1) (min-eq_left small)

  kept : bit_and x mask ≡ x % 2 ^ w
  kept = ap (bit_and x) ones ∙ and_mask x w

  word : x % 2 ^ w < 2 ^ 64
  word = omega (arith, mod-lt x (pow_pos w), pow_mono small)

  module _ (q v : ℕ) where
    -- a weight of the width or more
    module _ (h : w ≤ q) where
      all : x % 2 ^ w % 2 ^ min q w ≡ x % 2 ^ w
      all = ap (λ (k : ℕ). x % 2 ^ w % 2 ^ k) (min-eq_right h) ∙ mod-mod x (2 ^ w)

      nothing : 0 ≡ (x % 2 ^ w / 2 ^ q * v) % 2 ^ (w - q)
      nothing =
          let z : w - q ≡ 0 = omega arith in
          let a : ℕ = x % 2 ^ w / 2 ^ q * v in
          sym (ap (λ (k : ℕ). a % 2 ^ k) z ∙ mod-one a)

      pub heavy_zero : bit_and x mask ≡ 0 → Some 0 ≡ cell_of (eqb (x % 2 ^ w % 2 ^ min q w) 0) ((x % 2 ^ w / 2 ^ q * v) % 2 ^ (w - q))
      heavy_zero z = coefficient-eq _ 0 _ (eq-eqb _ 0 (all ∙ sym kept ∙ z)) nothing

      pub heavy_refused : (bit_and x mask ≡ 0 → ⊥) → None ≡ cell_of (eqb (x % 2 ^ w % 2 ^ min q w) 0) ((x % 2 ^ w / 2 ^ q * v) % 2 ^ (w - q))
      heavy_refused z = refused-eq _ _ (ne_eqb _ 0 (λ k. z (kept ∙ sym all ∙ k)))

    -- a lower weight: 2^q divides where shifting right and left gives the number again
    module _ (h : q < w) where
      low : x % 2 ^ w % 2 ^ min q w ≡ x % 2 ^ w % 2 ^ q
      low = ap (λ (k : ℕ). x % 2 ^ w % 2 ^ k) (min-eq_left (le_of_lt h))

      again : (bit_and x mask / 2 ^ q * 2 ^ q) % 2 ^ 64 + x % 2 ^ w % 2 ^ q ≡ bit_and x mask
      again =
          let parts : x % 2 ^ w / 2 ^ q * 2 ^ q + x % 2 ^ w % 2 ^ q ≡ x % 2 ^ w = split (x % 2 ^ w) q in
          let fits : x % 2 ^ w / 2 ^ q * 2 ^ q < 2 ^ 64 = omega (arith, parts, word) in
          ap (λ (n : ℕ). (n / 2 ^ q * 2 ^ q) % 2 ^ 64 + x % 2 ^ w % 2 ^ q) kept
          ∙ ap (◌+ x % 2 ^ w % 2 ^ q) (mod-eq_of_lt fits)
          ∙ parts
          ∙ sym kept

      -- the shift s is q
      module _ (s : ℕ) (shift : s ≡ q) where
        pub light_refused : ((bit_and x mask / 2 ^ s * 2 ^ s) % 2 ^ 64 ≡ bit_and x mask → ⊥)
            → None ≡ cell_of (eqb (x % 2 ^ w % 2 ^ min q w) 0) ((x % 2 ^ w / 2 ^ q * v) % 2 ^ (w - q))
        light_refused z = refused-eq _ _ (ne_eqb (x % 2 ^ w % 2 ^ min q w) 0 (λ k. z (rw shift (omega (arith, again, low, k)))))

        pub light_passes : (y ones : ℕ) → (bit_and x mask / 2 ^ s * 2 ^ s) % 2 ^ 64 ≡ bit_and x mask → y ≡ (bit_and x mask / 2 ^ s * v) % 2 ^ 64
            → ones ≡ 2 ^ (w - q) - 1
            → Some (bit_and y ones) ≡ cell_of (eqb (x % 2 ^ w % 2 ^ min q w) 0) ((x % 2 ^ w / 2 ^ q * v) % 2 ^ (w - q))
        light_passes y ones z f o =
            let none : x % 2 ^ w % 2 ^ min q w ≡ 0 = omega (arith, again, low, rw shift at z) in
            coefficient-eq _ _ _ (eq-eqb _ 0 none)
            (ap₂ bit_and (f ∙ ap₂ (λ (k n : ℕ). (n / 2 ^ k * v) % 2 ^ 64) shift kept) o
            ∙ and_mask ((x % 2 ^ w / 2 ^ q * v) % 2 ^ 64) (w - q)
            ∙ low_bits (x % 2 ^ w / 2 ^ q * v) (w - q) (omega arith))

-- a mask without ones, and one with some
pub mask_none : (k : ℕ) → 2 ^ k - 1 ≡ 0 → k ≡ 0
mask_none zero e = refl
mask_none (suc k) e = let big : 2 ^ 1 ≤ 2 ^ suc k = pow_mono {i = 1} {j = suc k} (omega arith) in omega arith

pub mask-some : (k : ℕ) → (2 ^ k - 1 ≡ 0 → ⊥) → 0 < k
mask-some zero h = absurd (h refl)
mask-some (suc k) h = omega arith

trailing_none : count_trailing_zeros 64 0 ≡ 64
unfolding count_trailing_zeros
trailing_none = refl

-- the zeros at the end of a mask and 1
pub trailing_mask : (b : ℕ) → b ≤ 64 → count_trailing_zeros 64 ((2 ^ b - 1 + 1) % 2 ^ 64) ≡ b
trailing_mask b h = go (eq-or-lt_of_le h)
  where
    next : 2 ^ b - 1 + 1 ≡ 2 ^ b
    next = omega (arith, pow_pos b)

    go : (b ≡ 64) ⊎ (b < 64) → count_trailing_zeros 64 ((2 ^ b - 1 + 1) % 2 ^ 64) ≡ b
    go (inl e) = rw e trailing_none
    go (inr l) =
        ap (λ (n : ℕ). count_trailing_zeros 64 (n % 2 ^ 64)) next
        ∙ ap (count_trailing_zeros 64) (mod-eq_of_lt (pow-lt l))
        ∙ trailing_eq-twos 64 (2 ^ b) (pow_pos b) (pow-lt l)
        ∙ ap twos (sym (mul-one (2 ^ b)))
        ∙ twos_eq b 1 refl

-- a mask with fewer ones left
pub mask-over : (w left mask : ℕ) → left ≤ w → left ≤ 64 → Mask 64 mask → Mask w (mask / 2 ^ (64 - left))
mask-over w left mask h small m =
    record {
      bits = m.bits - (64 - left);
      few = omega (arith, m.few);
      ones = ap (◌/ 2 ^ (64 - left)) m.ones ∙ mask-less m.bits (64 - left);
    }
