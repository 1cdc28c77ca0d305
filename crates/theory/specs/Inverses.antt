-- Inverses of odd numbers modulo powers of two: the digit by digit definition gives one, there is only one, and Newton's step doubles the
-- number of digits that are right.
use Rattle.std.specs.Prelude.{◌≡◌, refl, Bool, true, false, cond, ℕ, zero, suc, ◌+◌, ◌*◌, ◌-◌, ◌/◌, ◌%◌, ◌^◌, ◌≤◌, ◌<◌, min, eqb}
use Rattle.std.proofs.Common.{sym, ◌∙◌, ap, subst, ⊎_elim, mod-lt, mod-eq_of_lt, zero-lt-suc, div-add-mod', mul-one, mul_assoc, arith, eqb-true, pow_pos, pow-add}
use Rattle.std.specs.Int.Bits.{bit_and}
use Rattle.std.proofs.Math.Nat.{pow-succ'}
use Rattle.std.proofs.lemmas.Bool.{eqb-false}
use Rattle.meaning.specs.Inverses.{lifted, inverse}
use Rattle.meaning.specs.Differences.{minus}
use Rattle.theory.specs.Congruence.{Cong, of_multiples, multiples, cong_sym, cong_trans, cong_add-left, cong_mul-left, cong_of_eq, mod-cong, eq_of_cong, minus-add}
use Rattle.theory.specs.Twos.{even_or_odd}
use Rattle.theory.specs.Words.{cong_of_pow, masked_to}

-- x times v is 1 modulo 2^b, and v is below 2^b
pub record Inverse (x b v : ℕ) : Type 0 where
  pub unit : Cong (2 ^ b) (x * v) 1
  pub small : v < 2 ^ b

-- equal after as many multiples of p, up to an even number of them, is congruent modulo 2 p
even_multiples : (p a b s t : ℕ) → a + s * p ≡ b + t * p → s % 2 ≡ t % 2 → Cong (2 * p) a b
even_multiples p a b s t e h =
    of_multiples (2 * p) (s / 2) (t / 2)
    (omega (arith, e, ap (◌* p) (div-add-mod' s 2), ap (◌* p) (div-add-mod' t 2), ap (◌* p) h))

-- one digit more, where v serves for b digits
lifted_serves : (x b v : ℕ) → x % 2 ≡ 1 → Inverse x b v → Inverse x (suc b) (lifted x b v)
unfolding lifted
lifted_serves x b v odd i = go (eqb ((x * v) % 2 ^ suc b) (1 % 2 ^ suc b)) refl
  where
    s : ℕ
    s = 1 / 2 ^ b

    t : ℕ
    t = x * v / 2 ^ b

    equal : x * v + s * 2 ^ b ≡ 1 + t * 2 ^ b
    equal = multiples i.unit

    here : {a : ℕ} → Cong (2 * 2 ^ b) a 1 → Cong (2 ^ suc b) a 1
    here {a} c = subst (λ (m : ℕ). Cong m a 1) (sym (pow-succ' 2 b)) c

    small : (w : ℕ) → w < 2 * 2 ^ b → w < 2 ^ suc b
    small w h = rw (pow-succ' 2 b) h

    set-digit : (s + t) % 2 ≡ 1 → Cong (2 ^ suc b) (x * (v + 2 ^ b)) 1
    set-digit h =
        here
        (even_multiples (2 ^ b) (x * (v + 2 ^ b)) 1 s (t + x) (omega (arith, equal)) (omega (arith, h, odd)))

    go : (r : Bool) → eqb ((x * v) % 2 ^ suc b) (1 % 2 ^ suc b) ≡ r → Inverse x (suc b) (cond r v (v + 2 ^ b))
    go true e = record { unit = record { same = eqb-true _ _ e }; small = small v (omega (arith, i.small)) }
    go false e =
        record {
          unit =
              ⊎_elim
              (λ (h : (s + t) % 2 ≡ 0). absurd (eqb-false _ _ e (here (even_multiples (2 ^ b) (x * v) 1 s t equal (omega (arith, h)))).same))
              set-digit (even_or_odd (s + t));
          small = small (v + 2 ^ b) (omega (arith, i.small));
        }

-- the definition gives the inverse of an odd number
pub inverse_serves : (x b : ℕ) → x % 2 ≡ 1 → Inverse x b (inverse x b)
unfolding inverse
inverse_serves x zero odd = record { unit = of_multiples 1 1 (x * 0) (omega arith); small = zero-lt-suc 0 }
inverse_serves x (suc b) odd = lifted_serves x b (inverse x b) odd (inverse_serves x b odd)

-- there is only one
pub inverse_unique : (x b v : ℕ) → x % 2 ≡ 1 → Inverse x b v → v ≡ inverse x b
inverse_unique x b v odd i =
    let j = inverse_serves x b odd in
    let u = inverse x b in
    let left : Cong (2 ^ b) (u * (x * v)) (u * 1) = cong_mul-left u i.unit in
    let right : Cong (2 ^ b) (v * (x * u)) (v * 1) = cong_mul-left v j.unit in
    let e : u * (x * v) ≡ v * (x * u) = omega arith in
    eq_of_cong i.small j.small
    (cong_trans (cong_of_eq (2 ^ b) (sym (mul-one v)))
    (cong_trans (cong_sym right) (cong_trans (cong_of_eq (2 ^ b) (sym e)) (cong_trans left (cong_of_eq (2 ^ b) (mul-one u))))))

-- what Newton's step comes to, with all multiples written out
step_multiples : (d a s p q u w : ℕ) → a + p * d ≡ 1 + q * d → s + a + u * (d * d) ≡ 2 + w * (d * d)
    → a * s + (u * a + q * q + p * p) * (d * d) ≡ 1 + (w * a + (p * q + p * q)) * (d * d)
step_multiples d a s p q u w e f =
    omega (arith, ap (◌* a) f, ap (◌* a) e, ap (◌* (p * d)) e, ap (◌* (q * d)) e)

-- Newton's step: where x v is 1 modulo d, and s is 2 - x v modulo d^2, x v s is 1 modulo d^2
pub newton-step : (d x v s : ℕ) → Cong d (x * v) 1 → Cong (d * d) (s + x * v) 2 → Cong (d * d) (x * (v * s)) 1
newton-step d x v s h k =
    cong_trans (cong_of_eq (d * d) (sym (mul_assoc x v s)))
    (of_multiples (d * d) _ _ (step_multiples d (x * v) s (1 / d) (x * v / d) _ _ (multiples h) (multiples k)))

-- the inverse for fewer digits is the low digits of the inverse
pub inverse-cut : (x b c : ℕ) → x % 2 ≡ 1 → b ≤ c → inverse x c % 2 ^ b ≡ inverse x b
inverse-cut x b c odd h =
    let i = inverse_serves x c odd in
    inverse_unique x b (inverse x c % 2 ^ b) odd
    (record {
      unit = cong_trans (cong_mul-left x (mod-cong (2 ^ b) (inverse x c))) (cong_of_pow h i.unit);
      small = mod-lt (inverse x c) (pow_pos b);
    })

-- a mask cuts the inverse modulo 2^64 to the width
pub inverse_masked : (x b : ℕ) → x % 2 ≡ 1 → b ≤ 64 → bit_and (inverse x 64) (2 ^ min b 64 - 1) ≡ inverse x b
inverse_masked x b odd h =
    ap (λ (v : ℕ). bit_and v (2 ^ min b 64 - 1)) (sym (mod-eq_of_lt (inverse_serves x 64 odd).small))
    ∙ masked_to (inverse x 64) b h
    ∙ inverse-cut x b 64 odd h

-- ---- five steps at 64 bits

-- Newton's step modulo 2^64
abbrev pub word_step : ℕ → ℕ → ℕ
word_step x v = (v * minus (2 ^ 64) 2 ((x * v) % 2 ^ 64)) % 2 ^ 64

step_doubles : (n x v : ℕ) → n + n ≤ 64 → Cong (2 ^ n) (x * v) 1 → Cong (2 ^ (n + n)) (x * word_step x v) 1
step_doubles n x v h c =
    let s = minus (2 ^ 64) 2 ((x * v) % 2 ^ 64) in
    let two : Cong (2 ^ 64) (s + x * v) 2 =
    cong_trans (cong_add-left s (cong_sym (mod-cong (2 ^ 64) (x * v)))) (minus-add 2 ((x * v) % 2 ^ 64) (pow_pos 64)) in
    let there : Cong (2 ^ n * 2 ^ n) (s + x * v) 2 = subst (λ (m : ℕ). Cong m (s + x * v) 2) (pow-add 2 n n) (cong_of_pow h two) in
    let step : Cong (2 ^ (n + n)) (x * (v * s)) 1 =
    subst (λ (m : ℕ). Cong m (x * (v * s)) 1) (sym (pow-add 2 n n)) (newton-step (2 ^ n) x v s c there) in
    cong_trans (cong_mul-left x (cong_of_pow h (mod-cong (2 ^ 64) (v * s)))) step

-- an odd number is its own inverse modulo 8
self_inverse : (x : ℕ) → x % 2 ≡ 1 → Cong (2 ^ 3) (x * x) 1
self_inverse x odd =
    ⊎_elim
    (λ (h : x / 2 % 2 ≡ 0). square (4 * (x / 4) + 1) (omega (arith, h)) (of_multiples 8 0 (2 * (x / 4 * (x / 4)) + x / 4) (omega arith)))
    (λ (h : x / 2 % 2 ≡ 1). square (4 * (x / 4) + 3) (omega (arith, h)) (of_multiples 8 0 (2 * (x / 4 * (x / 4)) + 3 * (x / 4) + 1) (omega arith)))
    (even_or_odd (x / 2))
  where
    square : (y : ℕ) → x ≡ y → Cong 8 (y * y) 1 → Cong 8 (x * x) 1
    square y e c = subst (λ (z : ℕ). Cong 8 (z * z) 1) (sym e) c

-- five steps from x give its inverse modulo 2^64
pub five_steps : (x : ℕ) → x % 2 ≡ 1 → word_step x (word_step x (word_step x (word_step x (word_step x x)))) ≡ inverse x 64
five_steps x odd =
    let v₁ = word_step x x in
    let v₂ = word_step x v₁ in
    let v₃ = word_step x v₂ in
    let v₄ = word_step x v₃ in
    let c₁ = step_doubles 3 x x (omega arith) (self_inverse x odd) in
    let c₂ = step_doubles 6 x v₁ (omega arith) c₁ in
    let c₃ = step_doubles 12 x v₂ (omega arith) c₂ in
    let c₄ : Cong (2 ^ 48) (x * v₄) 1 = step_doubles 24 x v₃ (omega arith) c₃ in
    let half : Cong (2 ^ 32) (x * v₄) 1 = cong_of_pow {j = 32} {k = 48} (omega arith) c₄ in
    inverse_unique x 64 (word_step x v₄) odd (record { unit = step_doubles 32 x v₄ (omega arith) half; small = mod-lt _ (pow_pos 64) })
