-- From a difference to its coefficient, variable by variable, the last variable first. Of the exponents hs of the last variables the weight is
-- known, cut at the width, and the inverse of the odd factor modulo 2^64; one exponent more adds to the first and multiplies the second.
use Rattle.std.proofs.Common.{◌≡◌, ℕ, suc, ◌+◌, ◌-◌, ◌*◌, ◌/◌, ◌%◌, ◌^◌, ◌<◌, ◌≤◌, min, eqb, List, [], ◌∷◌, ◌++◌, sym, ap, ◌∙◌, append_assoc, mod-lt, mul_assoc, mul_comm, one-mul, lt_of_not-le, arith, pow_pos}
use Rattle.std.proofs.Math.Nat.{mod-one, mul-mul-mul_comm}
use Rattle.std.proofs.Math.Decide.{dec_le}
use Rattle.meaning.specs.Factorials.{factorial, odd_part}
use Rattle.meaning.specs.Boxes.{cells, digits}
use Rattle.meaning.specs.Values.{weight, odd_factor}
use Rattle.meaning.specs.Inverses.{inverse}
use Rattle.meaning.specs.Recovery.{divides, coefficient}
use Rattle.theory.specs.Congruence.{Cong, cong_trans, cong_of_eq, cong_mul, cong_mul-left, mod-cong}
use Rattle.theory.specs.Binomials.{factorial_pos}
use Rattle.theory.specs.Twos.{odd_part-odd, odd-mul}
use Rattle.theory.specs.Inverses.{inverse_serves, inverse_unique, inverse-cut}
use Rattle.theory.specs.Widths.{odd_factor-odd}
use Rattle.theory.specs.LastVariable.{cells-snoc, digits-snoc}

-- ---- the last variable

-- the sub-boxes of the last variable lie one after the other
pub cells_last : (ds : List ℕ) (d : ℕ) → cells (ds ++ (d ∷ [])) ≡ suc d * cells ds
cells_last ds d = cells-snoc ds d ∙ mul_comm (cells ds) (suc d)

-- cell r of sub-box e, with further exponents behind
pub digits_last : (ds : List ℕ) (d e r : ℕ) (hs : List ℕ) → e ≤ d → r < cells ds
    → digits (ds ++ (d ∷ [])) (e * cells ds + r) ++ hs ≡ digits ds r ++ (e ∷ hs)
digits_last ds d e r hs h l = ap (◌++ hs) (digits-snoc ds d e r h l) ∙ append_assoc (digits ds r) (e ∷ []) hs

-- ---- one exponent more

-- the inverse of a product of odd numbers is the product of the inverses
pub inverse-mul : (x y : ℕ) → x % 2 ≡ 1 → y % 2 ≡ 1 → (inverse y 64 * inverse x 64) % 2 ^ 64 ≡ inverse (x * y) 64
inverse-mul x y ox oy =
    let both : Cong (2 ^ 64) ((x * inverse x 64) * (y * inverse y 64)) (1 * 1) = cong_mul (inverse_serves x 64 ox).unit (inverse_serves y 64 oy).unit in
    let order : x * y * (inverse y 64 * inverse x 64) ≡ (x * inverse x 64) * (y * inverse y 64) =
    ap (x * y *◌) (mul_comm (inverse y 64) (inverse x 64)) ∙ mul-mul-mul_comm x y (inverse x 64) (inverse y 64) in
    inverse_unique (x * y) 64 ((inverse y 64 * inverse x 64) % 2 ^ 64) (odd-mul x y ox oy)
    (record {
      unit = cong_trans (cong_mul-left (x * y) (mod-cong (2 ^ 64) (inverse y 64 * inverse x 64))) (cong_trans (cong_of_eq (2 ^ 64) order) both);
      small = mod-lt _ (pow_pos 64);
    })

pub inverse_more : (e : ℕ) (hs : List ℕ) → (inverse (odd_factor hs) 64 * inverse (odd_part (factorial e)) 64) % 2 ^ 64 ≡ inverse (odd_factor (e ∷ hs)) 64
unfolding odd_factor
inverse_more e hs = inverse-mul (odd_part (factorial e)) (odd_factor hs) (odd_part-odd (factorial e) (factorial_pos e)) (odd_factor-odd hs)

-- ---- the exponents of two groups of variables

odd_factor-append : (es hs : List ℕ) → odd_factor (es ++ hs) ≡ odd_factor es * odd_factor hs
unfolding odd_factor
odd_factor-append [] hs = sym (one-mul (odd_factor hs))
odd_factor-append (e ∷ es) hs =
    ap (odd_part (factorial e) *◌) (odd_factor-append es hs) ∙ sym (mul_assoc (odd_part (factorial e)) (odd_factor es) (odd_factor hs))

pub inverse_parts : (es hs : List ℕ) → (inverse (odd_factor hs) 64 * inverse (odd_factor es) 64) % 2 ^ 64 ≡ inverse (odd_factor (es ++ hs)) 64
inverse_parts es hs =
    inverse-mul (odd_factor es) (odd_factor hs) (odd_factor-odd es) (odd_factor-odd hs) ∙ ap (λ (x : ℕ). inverse x 64) (sym (odd_factor-append es hs))

-- ---- one number

-- the test and the coefficient by a weight that is right below the width, and the inverse modulo 2^64
module _ (w : ℕ) (es : List ℕ) (k D : ℕ) (right : min k w ≡ min (weight es) w) where
  pub divides-cut : eqb (D % 2 ^ min k w) 0 ≡ divides w es D
  unfolding divides
  divides-cut = ap (λ (q : ℕ). eqb (D % 2 ^ q) 0) right

  pub coefficient-cut : w ≤ 64 → (D / 2 ^ k * inverse (odd_factor es) 64) % 2 ^ (w - k) ≡ coefficient w es D
  unfolding coefficient
  coefficient-cut small = go (dec_le w (weight es))
    where
      x : ℕ
      x = odd_factor es

      go : Dec (w ≤ weight es) → (D / 2 ^ k * inverse x 64) % 2 ^ (w - k) ≡ (D / 2 ^ weight es * inverse x (w - weight es)) % 2 ^ (w - weight es)
      go (yes h) =
          let z : w - k ≡ 0 = omega arith in
          let z' : w - weight es ≡ 0 = omega arith in
          let a : ℕ = D / 2 ^ k * inverse x 64 in
          let b : ℕ = D / 2 ^ weight es * inverse x (w - weight es) in
          ap (λ (n : ℕ). a % 2 ^ n) z ∙ mod-one a ∙ sym (ap (λ (n : ℕ). b % 2 ^ n) z' ∙ mod-one b)
      go (no h) =
          let l : weight es < w = lt_of_not-le h in
          let same : k ≡ weight es = omega arith in
          let n = w - weight es in
          let cut : inverse x 64 % 2 ^ n ≡ inverse x n = inverse-cut x n 64 (odd_factor-odd es) (omega arith) in
          ap (λ (q : ℕ). (D / 2 ^ q * inverse x 64) % 2 ^ (w - q)) same
          ∙ sym (cong_mul-left (D / 2 ^ weight es) (mod-cong (2 ^ n) (inverse x 64))).same
          ∙ ap (λ (v : ℕ). (D / 2 ^ weight es * v) % 2 ^ n) cut
