-- Numbers of 64 bits: what a mask keeps, and a product put together from 32-bit halves.
use Rattle.std.specs.Prelude.{◌≡◌, ℕ, ◌+◌, ◌*◌, ◌-◌, ◌/◌, ◌%◌, ◌^◌, ◌≤◌, ◌<◌, min}
use Rattle.std.proofs.Common.{sym, ◌∙◌, ap, ap₂, subst, mul-add, add-mul, mul_assoc, mul_comm, div-add-mod', mod-eq_of_lt, one-mul, mod-lt, lt_of_le_of_lt, le_of_lt, mul-le-mul_left, mul-lt-mul_of_pos_right, arith, pow-add, pow_pos}
use Rattle.std.proofs.Math.Nat.{min-le_right, min-eq_left}
use Rattle.std.specs.Int.Bits.{bit_and}
use Rattle.std.proofs.lemmas.Nat.{and_mask}
use Rattle.std.proofs.Math.Pow.{mod-mod-pow, pow-lt, ones_split, ones_lt, high}
use Rattle.meaning.specs.Differences.{minus}
use Rattle.theory.specs.Congruence.{Cong, cong_of_mul, cong_trans, cong_add_right, mod-cong, eq_of_cong, minus-add, minus-lt, cong_minus_of_add}

-- the low k bits of the low 64 bits are the low k bits
pub low_bits : (n k : ℕ) → k ≤ 64 → n % 2 ^ 64 % 2 ^ k ≡ n % 2 ^ k
low_bits n k h =
    let e : (64 - k) + k ≡ 64 = omega arith in
    subst (λ (t : ℕ). n % 2 ^ t % 2 ^ k ≡ n % 2 ^ k) e (mod-mod-pow n (64 - k) k)

-- congruent modulo a power of two is congruent modulo a lower one
pub cong_of_pow : {j k a b : ℕ} → j ≤ k → Cong (2 ^ k) a b → Cong (2 ^ j) a b
cong_of_pow {j} {k} {a} {b} h c =
    let e : j + (k - j) ≡ k = omega arith in
    cong_of_mul (2 ^ j) (2 ^ (k - j)) (subst (λ (m : ℕ). Cong m a b) (ap (2 ^◌) (sym e) ∙ pow-add 2 j (k - j)) c)

-- a mask of the width keeps the number modulo 2^width, the width cut at 64
pub masked : (n w : ℕ) → bit_and (n % 2 ^ 64) (2 ^ min w 64 - 1) ≡ n % 2 ^ min w 64
masked n w = and_mask (n % 2 ^ 64) (min w 64) ∙ low_bits n (min w 64) (min-le_right w 64)

-- a mask of a width to 64 keeps the number modulo 2^width
pub masked_low : (n w : ℕ) → w ≤ 64 → bit_and n (2 ^ min w 64 - 1) ≡ n % 2 ^ w
masked_low n w h = and_mask n (min w 64) ∙ ap (λ (k : ℕ). n % 2 ^ k) (min-eq_left h)

-- the same of the low 64 bits
pub masked_to : (n w : ℕ) → w ≤ 64 → bit_and (n % 2 ^ 64) (2 ^ min w 64 - 1) ≡ n % 2 ^ w
masked_to n w h = masked n w ∙ ap (λ (k : ℕ). n % 2 ^ k) (min-eq_left h)

-- four products of halves, added up modulo 2^64, where the cross products count 2^32 times
sum_of_halves : (p q r s t : ℕ) → t ≡ s * 0x1_0000_0000_0000_0000 + (q + r) * 0x1_0000_0000 + p
    → (p + (q + r) % 0x1_0000_0000_0000_0000 % 0x1_0000_0000 * 0x1_0000_0000) % 0x1_0000_0000_0000_0000 ≡ t % 0x1_0000_0000_0000_0000
sum_of_halves p q r s t e = omega arith

-- the product of two numbers, each high half times 2^32 plus low half
halves : (a b c d : ℕ) → (a * 0x1_0000_0000 + b) * (c * 0x1_0000_0000 + d) ≡ a * c * 0x1_0000_0000_0000_0000 + (b * c + a * d) * 0x1_0000_0000 + b * d
halves a b c d = simp (mul-add, add-mul) (omega (arith, mul_assoc (a * 0x1_0000_0000) c 0x1_0000_0000, mul_comm a 0x1_0000_0000))

-- the product modulo 2^64 from the halves of both factors
pub product_by_halves : (a b : ℕ) →
    (a % 0x1_0000_0000 * (b % 0x1_0000_0000)
    + (a % 0x1_0000_0000 * (b / 0x1_0000_0000) + a / 0x1_0000_0000 * (b % 0x1_0000_0000)) % 0x1_0000_0000_0000_0000 % 0x1_0000_0000 * 0x1_0000_0000)
    % 0x1_0000_0000_0000_0000
    ≡ (a * b) % 0x1_0000_0000_0000_0000
product_by_halves a b =
    sum_of_halves _ _ _ (a / 0x1_0000_0000 * (b / 0x1_0000_0000)) (a * b)
    (ap₂ ◌*◌ (sym (div-add-mod' a 0x1_0000_0000)) (sym (div-add-mod' b 0x1_0000_0000))
    ∙ halves (a / 0x1_0000_0000) (a % 0x1_0000_0000) (b / 0x1_0000_0000) (b % 0x1_0000_0000))

-- a one shifted by fewer than 64 places
pub shifted_one : (w : ℕ) → w < 64 → (1 * 2 ^ w) % 2 ^ 64 ≡ 2 ^ w
shifted_one w h = ap (λ (x : ℕ). x % 2 ^ 64) (one-mul (2 ^ w)) ∙ mod-eq_of_lt (pow-lt h)

-- two numbers below 2^k have a product below 2^(k + k)
pub product-fits : (k : ℕ) {a b : ℕ} → a < 2 ^ k → b < 2 ^ k → a * b < 2 ^ (k + k)
product-fits k {a} {b} ha hb =
    rw (pow-add 2 k k) (lt_of_le_of_lt (mul-le-mul_left a (le_of_lt hb)) (mul-lt-mul_of_pos_right ha (pow_pos k)))

-- the low k bits of a difference of 64 bits are the difference of k bits
pub minus_masked : (a b w : ℕ) → bit_and (minus (2 ^ 64) a b) (2 ^ min w 64 - 1) ≡ minus (2 ^ min w 64) a b
minus_masked a b w =
    let k = min w 64 in
    let small : minus (2 ^ 64) a b % 2 ^ 64 ≡ minus (2 ^ 64) a b = mod-eq_of_lt (minus-lt a b (pow_pos 64)) in
    let cut : Cong (2 ^ k) (minus (2 ^ 64) a b % 2 ^ k) (minus (2 ^ 64) a b) = mod-cong (2 ^ k) (minus (2 ^ 64) a b) in
    let sum : Cong (2 ^ k) (minus (2 ^ 64) a b + b) a = cong_of_pow (min-le_right w 64) (minus-add a b (pow_pos 64)) in
    ap (λ (x : ℕ). bit_and x (2 ^ k - 1)) (sym small) ∙ masked (minus (2 ^ 64) a b) w
    ∙ eq_of_cong (mod-lt (minus (2 ^ 64) a b) (pow_pos k)) (minus-lt a b (pow_pos k))
    (cong_minus_of_add b (pow_pos k) (cong_trans (cong_add_right b cut) sum))

-- a mask shifted right by fewer places than it has ones
pub mask-shifted : (w t : ℕ) → t ≤ w → (2 ^ w - 1) / 2 ^ t ≡ 2 ^ (w - t) - 1
mask-shifted w t h =
    let e : (w - t) + t ≡ w = omega arith in
    ap (λ (k : ℕ). (2 ^ k - 1) / 2 ^ t) (sym e) ∙ ap (◌/ 2 ^ t) (ones_split (w - t) t) ∙ high (2 ^ (w - t) - 1) t (ones_lt t)
