-- One cell: which coefficients c have c * f ≈ D modulo m, for a factor f that may have divisors in common with m.
-- With g the common part, m = g * h and f = g * k, and u an inverse of k modulo h, the factor g is cancelled: there is such a c exactly when
-- g divides D, and then c is D / g * u modulo h.
use Rattle.std.specs.Prelude.{◌≡◌, ◌↔◌, ℕ, ◌*◌, ◌/◌, ◌%◌, ◌<◌}
use Rattle.std.proofs.Common.{sym, ap, subst, ◌∙◌, div-add-mod', mul_assoc, mul_right_comm, arith}
use Rattle.std.proofs.Math.Path.{subst⁻¹}
use Rattle.std.proofs.Math.Nat.{mul-mod_right}
use Rattle.theory.specs.Congruence.{Cong, cong_of_eq, cong_sym, cong_trans, cong_mul-left, cong_mul_right, cong_of_mul, cong_mul-mul}

-- the common part g of modulus and factor, what is left of each, and an inverse
pub record OneCell (m f : ℕ) : Type 0 where
  pub g : ℕ
  pub h : ℕ
  pub k : ℕ
  pub u : ℕ
  pub modulus : m ≡ g * h
  pub factor : f ≡ g * k
  pub inverse : (k * u) % h ≡ 1 % h
  pub g_pos : 0 < g
  pub h_pos : 0 < h

module _ {m f : ℕ} (o : OneCell m f) where
  -- a product with the factor is a multiple of g
  turned : (c : ℕ) → c * f ≡ o.g * (c * o.k)
  turned c = ap (c *◌) o.factor ∙ omega arith

  -- k and its inverse cancel
  around : (a : ℕ) → Cong o.h (a * o.k * o.u) a
  around a =
      let one : Cong o.h (o.k * o.u) 1 = record { same = o.inverse } in
      cong_trans (cong_of_eq _ (mul_assoc a o.k o.u)) (cong_trans (cong_mul-left a one) (cong_of_eq _ (omega arith)))

  -- a common factor g of modulus, factor and result is cancelled
  pub mul-factor_cong : (c E : ℕ) → Cong m (c * f) (o.g * E) ↔ Cong o.h (c * o.k) E
  mul-factor_cong c E = (λ e. (cong_mul-mul o.h o.g_pos).0 (there e), λ e. back ((cong_mul-mul o.h o.g_pos).1 e))
    where
      there : Cong m (c * f) (o.g * E) → Cong (o.g * o.h) (o.g * (c * o.k)) (o.g * E)
      there e = cong_trans (cong_of_eq _ (sym (turned c))) (subst (λ (n : ℕ). Cong n (c * f) (o.g * E)) o.modulus e)

      back : Cong (o.g * o.h) (o.g * (c * o.k)) (o.g * E) → Cong m (c * f) (o.g * E)
      back e = subst⁻¹ (λ (n : ℕ). Cong n (c * f) (o.g * E)) o.modulus (cong_trans (cong_of_eq _ (turned c)) e)

  -- and then k is taken to the other side by its inverse
  pub mul-factor_solved : (c E : ℕ) → Cong m (c * f) (o.g * E) ↔ Cong o.h c (E * o.u)
  mul-factor_solved c E = (there, back)
    where
      there : Cong m (c * f) (o.g * E) → Cong o.h c (E * o.u)
      there e = cong_trans (cong_sym (around c)) (cong_mul_right o.u ((mul-factor_cong c E).0 e))

      back : Cong o.h c (E * o.u) → Cong m (c * f) (o.g * E)
      back e =
          (mul-factor_cong c E).1
          (cong_trans (cong_mul_right o.k e) (cong_trans (cong_of_eq _ (mul_right_comm E o.u o.k)) (around E)))

  -- products with the factor are the same, modulo m, exactly for coefficients that are the same modulo h
  pub mul-factor_same : (a b : ℕ) → Cong m (a * f) (b * f) ↔ Cong o.h a b
  mul-factor_same a b = (there, back)
    where
      there : Cong m (a * f) (b * f) → Cong o.h a b
      there e = cong_trans ((mul-factor_solved a (b * o.k)).0 (cong_trans e (cong_of_eq m (turned b)))) (around b)

      back : Cong o.h a b → Cong m (a * f) (b * f)
      back e = cong_trans ((mul-factor_solved a (b * o.k)).1 (cong_trans e (cong_sym (around b)))) (cong_of_eq m (sym (turned b)))

  -- the coefficients whose product with the factor is D modulo m
  pub mul-factor-iff : (c D : ℕ) → ((c * f) % m ≡ D % m) ↔ ((D % o.g ≡ 0) × (c % o.h ≡ (D / o.g * o.u) % o.h))
  mul-factor-iff c D = (there, back)
    where
      whole : D % o.g ≡ 0 → D ≡ o.g * (D / o.g)
      whole z = omega (arith, div-add-mod' D o.g)

      divides : (c * f) % m ≡ D % m → D % o.g ≡ 0
      divides e =
          let turn : D % m ≡ (o.g * (c * o.k)) % m = sym e ∙ ap (◌% m) (turned c) in
          let less : Cong (o.g * o.h) D (o.g * (c * o.k)) = record { same = rw o.modulus at turn } in
          (cong_of_mul o.g o.h less).same ∙ mul-mod_right o.g (c * o.k)

      there : (c * f) % m ≡ D % m → (D % o.g ≡ 0) × (c % o.h ≡ (D / o.g * o.u) % o.h)
      there e = (divides e, ((mul-factor_solved c (D / o.g)).0 (cong_trans (record { same = e }) (cong_of_eq m (whole (divides e))))).same)

      back : (D % o.g ≡ 0) × (c % o.h ≡ (D / o.g * o.u) % o.h) → (c * f) % m ≡ D % m
      back e = (cong_trans ((mul-factor_solved c (D / o.g)).1 (record { same = e.1 })) (cong_of_eq m (sym (whole e.0)))).same
