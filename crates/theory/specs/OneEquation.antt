-- One equation v P ≈ E modulo 2^w. With t the twos of P, cut at w, it has a solution exactly when 2^t divides E; `quotient` is one, and the
-- solutions are the numbers congruent to it modulo 2^(w - t). It is one cell with common part 2^t, what is left of P being odd or the modulus 1.
use Rattle.std.specs.Prelude.{◌≡◌, refl, ◌↔◌, ℕ, ◌+◌, ◌*◌, ◌-◌, ◌/◌, ◌%◌, ◌^◌, ◌≤◌, ◌<◌}
use Rattle.std.proofs.Common.{sym, ap, ◌∙◌, mod-lt, mod-eq_of_lt, lt_of_not-le, arith, pow_pos, pow-add}
use Rattle.std.proofs.Math.Nat.{mod-one, sub_self}
use Rattle.std.proofs.Math.Decide.{dec_le}
use Rattle.meaning.specs.Factorials.{twos_of}
use Rattle.meaning.specs.Inverses.{inverse}
use Rattle.meaning.specs.Elimination.{quotient}
use Rattle.theory.specs.Congruence.{Cong, cong_trans, cong_sym, mod-cong}
use Rattle.theory.specs.Inverses.{inverse_serves}
use Rattle.theory.specs.OneCell.{OneCell, mul-factor-iff}
use Rattle.theory.specs.Trailing.{twos_of-le, twos_of_whole, twos_of-left-odd}

-- the cell of a factor P at width w
pub pivot_cell : (w P : ℕ) → OneCell (2 ^ w) P
pivot_cell w P =
    record {
      g = 2 ^ t;
      h = 2 ^ (w - t);
      k = P / 2 ^ t;
      u = inverse (P / 2 ^ t) (w - t);
      modulus = ap (2 ^◌) whole ∙ pow-add 2 t (w - t);
      factor = twos_of_whole w P;
      inverse = serves (dec_le w t);
      g_pos = pow_pos t;
      h_pos = pow_pos (w - t);
    }
  where
    t : ℕ
    t = twos_of w P

    whole : w ≡ t + (w - t)
    whole = omega (arith, twos_of-le w P)

    serves : Dec (w ≤ t) → (P / 2 ^ t * inverse (P / 2 ^ t) (w - t)) % 2 ^ (w - t) ≡ 1 % 2 ^ (w - t)
    serves (no h) = (inverse_serves (P / 2 ^ t) (w - t) (twos_of-left-odd w P (lt_of_not-le h))).unit.same
    serves (yes h) =
        let z : w - t ≡ 0 = omega arith in
        let a : ℕ = P / 2 ^ t * inverse (P / 2 ^ t) (w - t) in
        ap (λ (k : ℕ). a % 2 ^ k) z ∙ mod-one a ∙ sym (ap (λ (k : ℕ). 1 % 2 ^ k) z)

-- the quotient is below 2^(w - t)
pub quotient-lt : (w t P E : ℕ) → quotient w t P E < 2 ^ (w - t)
unfolding quotient
quotient-lt w t P E = mod-lt _ (pow_pos (w - t))

-- it is 0 where t is w
pub quotient_full : (w P E : ℕ) → quotient w w P E ≡ 0
unfolding quotient
quotient_full w P E =
    let a : ℕ = E / 2 ^ w * inverse (P / 2 ^ w) (w - w) in
    ap (λ (k : ℕ). a % 2 ^ k) (sub_self w) ∙ mod-one a

-- the solutions of v P ≈ E: 2^t divides E, and v is the quotient modulo 2^(w - t)
pub equation_iff : (w P E v : ℕ)
    → Cong (2 ^ w) (v * P) E ↔ ((E % 2 ^ twos_of w P ≡ 0) × Cong (2 ^ (w - twos_of w P)) v (quotient w (twos_of w P) P E))
unfolding pivot_cell quotient
equation_iff w P E v = (there, back)
  where
    t : ℕ
    t = twos_of w P

    a : ℕ
    a = E / 2 ^ t * inverse (P / 2 ^ t) (w - t)

    there : Cong (2 ^ w) (v * P) E → (E % 2 ^ t ≡ 0) × Cong (2 ^ (w - t)) v (a % 2 ^ (w - t))
    there e =
        let r = (mul-factor-iff (pivot_cell w P) v E).0 e.same in
        (r.0, cong_trans (record { same = r.1 }) (cong_sym (mod-cong (2 ^ (w - t)) a)))

    back : (E % 2 ^ t ≡ 0) × Cong (2 ^ (w - t)) v (a % 2 ^ (w - t)) → Cong (2 ^ w) (v * P) E
    back r = record { same = (mul-factor-iff (pivot_cell w P) v E).1 (r.0, (cong_trans r.1 (mod-cong (2 ^ (w - t)) a)).same) }

-- the quotient is a solution
pub quotient-mul : (w P E : ℕ) → E % 2 ^ twos_of w P ≡ 0 → Cong (2 ^ w) (quotient w (twos_of w P) P E * P) E
quotient-mul w P E h = (equation_iff w P E (quotient w (twos_of w P) P E)).1 (h, record { same = refl })

-- the quotient is the only solution below 2^(w - t)
pub quotient_unique : (w P E v : ℕ) → v < 2 ^ (w - twos_of w P) → Cong (2 ^ w) (v * P) E → v ≡ quotient w (twos_of w P) P E
quotient_unique w P E v s h =
    let r = ((equation_iff w P E v).0 h).1 in
    sym (mod-eq_of_lt s) ∙ r.same ∙ mod-eq_of_lt (quotient-lt w (twos_of w P) P E)
