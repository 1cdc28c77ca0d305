-- Numbers modulo m: the laws of congruence, and of the difference modulo m.
-- Two numbers are congruent exactly when they are equal after multiples of m are added to both (`of_multiples`, `multiples`): nearly every law
-- is a law of such equations.
use Rattle.std.specs.Prelude.{◌≡◌, refl, ◌↔◌, ℕ, suc, ◌+◌, ◌-◌, ◌*◌, ◌/◌, ◌%◌, ◌<◌}
use Rattle.std.proofs.Common.{sym, ap, ◌∙◌, div-add-mod', mod-lt, mod-eq_of_lt, arith}
use Rattle.std.proofs.Math.Nat.{add-mul-mod_self_right, mod-mod, eq_of_mul-eq-mul_left}
use Rattle.meaning.specs.Differences.{minus}

-- a and b are congruent modulo m
pub record Cong (m a b : ℕ) : Type 0 where
  pub same : a % m ≡ b % m

-- numbers that are equal after adding multiples of m are congruent
pub of_multiples : (m k l : ℕ) {a b : ℕ} → a + k * m ≡ b + l * m → Cong m a b
of_multiples m k l {a} {b} e =
    record { same = sym (add-mul-mod_self_right a k m) ∙ ap (◌% m) e ∙ add-mul-mod_self_right b l m }

-- congruent numbers are equal after adding multiples of m
pub multiples : {m a b : ℕ} → Cong m a b → a + b / m * m ≡ b + a / m * m
multiples {m} {a} {b} h = omega (arith, div-add-mod' a m, div-add-mod' b m, h.same)

-- equal numbers are congruent
pub cong_of_eq : (m : ℕ) {a b : ℕ} → a ≡ b → Cong m a b
cong_of_eq m e = record { same = ap (◌% m) e }

-- congruence is an equivalence
pub cong_refl : {m : ℕ} (a : ℕ) → Cong m a a
cong_refl a = record { same = refl }

pub cong_sym : {m a b : ℕ} → Cong m a b → Cong m b a
cong_sym h = record { same = sym h.same }

pub cong_trans : {m a b c : ℕ} → Cong m a b → Cong m b c → Cong m a c
cong_trans h k = record { same = h.same ∙ k.same }

-- a number is congruent to its remainder
pub mod-cong : (m a : ℕ) → Cong m (a % m) a
mod-cong m a = record { same = mod-mod a m }

-- a multiple of m is congruent to 0
pub cong_mul-zero : (m k : ℕ) → Cong m (k * m) 0
cong_mul-zero m k = of_multiples m 0 k (omega arith)

-- ---- sums and products

-- congruent summands
pub cong_add_right : {m a b : ℕ} (c : ℕ) → Cong m a b → Cong m (a + c) (b + c)
cong_add_right {m} {a} {b} c h = of_multiples m (b / m) (a / m) (omega (arith, multiples h))

pub cong_add-left : {m a b : ℕ} (c : ℕ) → Cong m a b → Cong m (c + a) (c + b)
cong_add-left {m} {a} {b} c h = of_multiples m (b / m) (a / m) (omega (arith, multiples h))

pub cong_add : {m a b c d : ℕ} → Cong m a b → Cong m c d → Cong m (a + c) (b + d)
cong_add {m} {a} {b} {c} {d} h k = cong_trans (cong_add_right c h) (cong_add-left b k)

-- congruent factors
pub cong_mul_right : {m a b : ℕ} (c : ℕ) → Cong m a b → Cong m (a * c) (b * c)
cong_mul_right {m} {a} {b} c h = of_multiples m (b / m * c) (a / m * c) (omega (arith, ap (◌* c) (multiples h)))

pub cong_mul-left : {m a b : ℕ} (c : ℕ) → Cong m a b → Cong m (c * a) (c * b)
cong_mul-left {m} {a} {b} c h = of_multiples m (b / m * c) (a / m * c) (omega (arith, ap (◌* c) (multiples h)))

pub cong_mul : {m a b c d : ℕ} → Cong m a b → Cong m c d → Cong m (a * c) (b * d)
cong_mul {m} {a} {b} {c} {d} h k = cong_trans (cong_mul_right c h) (cong_mul-left b k)

-- for rewriting modulo m
pub ruleset congruences = (cong_refl, cong_trans, cong_add, cong_mul)

-- a summand is cancelled
pub cong_add_cancel : {m : ℕ} (c : ℕ) {a b : ℕ} → Cong m (a + c) (b + c) → Cong m a b
cong_add_cancel {m} c {a} {b} h = of_multiples m ((b + c) / m) ((a + c) / m) (omega (arith, multiples h))

-- as before, where the summands are congruent only
pub cong_add_cancel_cong : {m a b c d : ℕ} → Cong m c d → Cong m (a + c) (b + d) → Cong m a b
cong_add_cancel_cong {m} {a} {b} {c} {d} k h = cong_add_cancel c (cong_trans h (cong_add-left b (cong_sym k)))

-- ---- other moduli

-- congruent numbers are congruent modulo a divisor
pub cong_of_mul : (d e : ℕ) {a b : ℕ} → Cong (d * e) a b → Cong d a b
cong_of_mul d e {a} {b} h = of_multiples d (b / (d * e) * e) (a / (d * e) * e) (omega (arith, multiples h))

-- a common factor of both numbers and the modulus is cancelled
pub cong_mul-mul : {g : ℕ} (h : ℕ) {a b : ℕ} → 0 < g → Cong (g * h) (g * a) (g * b) ↔ Cong h a b
cong_mul-mul {g} h {a} {b} p = (there, back)
  where
    there : Cong (g * h) (g * a) (g * b) → Cong h a b
    there c =
        of_multiples h (g * b / (g * h)) (g * a / (g * h))
        (eq_of_mul-eq-mul_left g p _ _ (omega (arith, multiples c)))

    back : Cong h a b → Cong (g * h) (g * a) (g * b)
    back c = of_multiples (g * h) (b / h) (a / h) (omega (arith, ap (g *◌) (multiples c)))

-- ---- small numbers

-- congruent numbers below m are equal
pub eq_of_cong : {m a b : ℕ} → a < m → b < m → Cong m a b → a ≡ b
eq_of_cong p q h = sym (mod-eq_of_lt p) ∙ h.same ∙ mod-eq_of_lt q

-- ---- the difference modulo m

-- the difference and b make a
pub minus-add : {m : ℕ} (a b : ℕ) → 0 < m → Cong m (minus m a b + b) a
unfolding minus
minus-add {m} a b p =
    cong_trans (cong_add_right b (mod-cong m (a + (m - b % m)))) (of_multiples m 0 (suc (b / m)) (omega (arith, div-add-mod' b m, mod-lt b p)))

-- the difference is below m
pub minus-lt : {m : ℕ} (a b : ℕ) → 0 < m → minus m a b < m
unfolding minus
minus-lt {m} a b p = mod-lt (a + (m - b % m)) p

-- what makes a with b is the difference
pub cong_minus_of_add : {m a : ℕ} (b : ℕ) {c : ℕ} → 0 < m → Cong m (c + b) a → Cong m c (minus m a b)
cong_minus_of_add {m} {a} b {c} p h = cong_add_cancel b (cong_trans h (cong_sym (minus-add a b p)))

-- the difference depends on its terms modulo m only
pub minus_cong : {m a b c d : ℕ} → 0 < m → Cong m a c → Cong m b d → minus m a b ≡ minus m c d
minus_cong {m} {a} {b} {c} {d} p h k =
    eq_of_cong (minus-lt a b p) (minus-lt c d p)
    (cong_minus_of_add d p (cong_trans (cong_add-left (minus m a b) (cong_sym k)) (cong_trans (minus-add a b p) h)))
