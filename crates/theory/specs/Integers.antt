-- Residues of whole numbers. A whole number z is the difference of two natural numbers, its part above zero and its part below zero; r stands
-- for z modulo m where r and the part below make the part above (`Stands`). What stands for z is unique modulo m, and stands for sums and
-- products as it should: from that follow all laws of the residue.
use Rattle.std.specs.Prelude.{◌≡◌, refl, Bool, true, false, not, cond, T, ltb, length, drop, ℤ, negsuc, neg_ℤ, ◌+ℤ◌, ◌-ℤ◌, ◌*ℤ◌, ℕ, zero, suc, pred, ◌+◌, ◌-◌, ◌*◌, ◌%◌, ◌^◌, ◌≤◌, ◌<◌, List, [], ◌∷◌, map, pos}
use Rattle.std.proofs.Common.{sym, mul-pos, add-zero, pow-suc, arith, ltb→lt, nltb→le, ap, mod-lt}
use Rattle.std.proofs.Math.Nat.{suc-pred-eq_of_pos, pow-zero, zero-mod}
use Rattle.std.proofs.Math.IntN.{sub_ℕ, -ℤ-+ℤ_cancel}
use Rattle.meaning.specs.Tables.{at}
use Rattle.meaning.specs.Sums.{sum}
use Rattle.meaning.specs.Factorials.{falling}
use Rattle.meaning.specs.Boxes.{cells, digits}
use Rattle.meaning.specs.Values.{product, value}
use Rattle.meaning.specs.Integers.{residue, fallingℤ, powerℤ}
use Rattle.meaning.specs.Polynomials.{productℤ, sumℤ, box_at}
use Rattle.theory.specs.Sums.{sum_cong}
use Rattle.theory.specs.Binomials.{mul-falling}
use Rattle.theory.specs.Congruence.{Cong, cong_of_eq, cong_sym, cong_trans, cong_add, cong_add-left, cong_add_right, cong_mul, cong_mul-left, cong_mul_right, cong_add_cancel, cong_add_cancel_cong, mod-cong, eq_of_cong, of_multiples, cong_of_mul}

-- z is its part above zero less its part below
abbrev above : ℤ → ℕ
above (pos n) = n
above (negsuc n) = 0

abbrev below : ℤ → ℕ
below (pos n) = 0
below (negsuc n) = suc n

-- the parts of a difference, a negation, a sum and a product
sub_parts : (a b : ℕ) → above (sub_ℕ a b) + b ≡ a + below (sub_ℕ a b)
sub_parts a b = go (ltb a b) (ltb→lt a b) (nltb→le a b)
  where
    go : (c : Bool) → (T c → a < b) → (T (not c) → b ≤ a) →
        above (cond c (negsuc (b - suc a)) (pos (a - b))) + b ≡ a + below (cond c (negsuc (b - suc a)) (pos (a - b)))
    go true p q = omega (arith, p tt)
    go false p q = omega (arith, q tt)

neg_parts : (z : ℤ) → (above (neg_ℤ z) ≡ below z) × (below (neg_ℤ z) ≡ above z)
neg_parts (pos zero) = (refl, refl)
neg_parts (pos (suc n)) = (refl, refl)
neg_parts (negsuc n) = (refl, refl)

add_parts : (x y : ℤ) → above (x +ℤ y) + (below x + below y) ≡ above x + above y + below (x +ℤ y)
add_parts (pos a) (pos b) = omega arith
add_parts (pos a) (negsuc b) = omega (arith, sub_parts a (suc b))
add_parts (negsuc a) (pos b) = omega (arith, sub_parts b (suc a))
add_parts (negsuc a) (negsuc b) = omega arith

mul_parts : (x y : ℤ) → above (x *ℤ y) + (above x * below y + below x * above y) ≡ above x * above y + below x * below y + below (x *ℤ y)
mul_parts (pos a) (pos b) = omega arith
mul_parts (pos a) (negsuc b) = omega (arith, (neg_parts (pos (a * suc b))).0, (neg_parts (pos (a * suc b))).1)
mul_parts (negsuc a) (pos b) = omega (arith, (neg_parts (pos (suc a * b))).0, (neg_parts (pos (suc a * b))).1)
mul_parts (negsuc a) (negsuc b) = omega arith

-- r stands for z modulo m
record Stands (m r : ℕ) (z : ℤ) : Type 0 where
  part : Cong m (r + below z) (above z)

-- what stands for z is unique modulo m, and goes with sums and products
stands_unique : {m r s : ℕ} {z : ℤ} → Stands m r z → Stands m s z → Cong m r s
stands_unique {z = z} p q = cong_add_cancel (below z) (cong_trans p.part (cong_sym q.part))

stands_add : {m r s : ℕ} {x y : ℤ} → Stands m r x → Stands m s y → Stands m (r + s) (x +ℤ y)
stands_add {m} {r} {s} {x} {y} p q =
    record {
      part =
          cong_add_cancel (below x + below y)
          (cong_trans (cong_of_eq m regroup)
          (cong_trans (cong_add_right (below (x +ℤ y)) (cong_add p.part q.part)) (cong_of_eq m (sym (add_parts x y)))));
    }
  where
    regroup : r + s + below (x +ℤ y) + (below x + below y) ≡ r + below x + (s + below y) + below (x +ℤ y)
    regroup = omega arith

stands_mul : {m r s : ℕ} {x y : ℤ} → Stands m r x → Stands m s y → Stands m (r * s) (x *ℤ y)
stands_mul {m} {r} {s} {x} {y} p q =
    record {
      part =
          cong_add_cancel_cong (cong_add (cong_mul_right (below y) p.part) (cong_mul-left (below x) q.part))
          (cong_trans (cong_of_eq m regroup)
          (cong_trans
          (cong_add_right (below x * below y + below (x *ℤ y)) (cong_mul p.part q.part))
          (cong_of_eq m (omega (arith, mul_parts x y)))));
    }
  where
    regroup : r * s + below (x *ℤ y) + ((r + below x) * below y + below x * (s + below y)) ≡
        (r + below x) * (s + below y) + (below x * below y + below (x *ℤ y))
    regroup = omega arith

module _ {m : ℕ} (positive : 0 < m) where
  -- the residue stands for z
  stands_residue : (z : ℤ) → Stands m (residue m z) z
  unfolding residue
  stands_residue (pos n) = record { part = cong_trans (cong_of_eq m (add-zero (n % m))) (mod-cong m n) }
  stands_residue (negsuc n) =
      record
      { part = cong_trans (cong_add_right (suc n) (mod-cong m (pred m * suc n))) (of_multiples m 0 (suc n) whole) }
    where
      whole : pred m * suc n + suc n + 0 * m ≡ 0 + suc n * m
      whole = omega (arith, ap (◌* suc n) (suc-pred-eq_of_pos positive))

  -- the residue is below m
  pub residue-lt : (z : ℤ) → residue m z < m
  unfolding residue
  residue-lt (pos n) = mod-lt n positive
  residue-lt (negsuc n) = mod-lt (pred m * suc n) positive

  -- a natural number is its own residue, modulo m
  pub residue_pos : (n : ℕ) → Cong m (residue m (pos n)) n
  unfolding residue
  residue_pos n = mod-cong m n

  -- sums and products
  pub residue-add : (x y : ℤ) → Cong m (residue m (x +ℤ y)) (residue m x + residue m y)
  residue-add x y = stands_unique (stands_residue (x +ℤ y)) (stands_add (stands_residue x) (stands_residue y))

  pub residue-mul : (x y : ℤ) → Cong m (residue m (x *ℤ y)) (residue m x * residue m y)
  residue-mul x y = stands_unique (stands_residue (x *ℤ y)) (stands_mul (stands_residue x) (stands_residue y))

  -- a difference, by its sum
  pub residue-sub : (x y : ℤ) → Cong m (residue m (x -ℤ y) + residue m y) (residue m x)
  residue-sub x y = cong_trans (cong_sym (residue-add (x -ℤ y) y)) (cong_of_eq m (ap (residue m) (-ℤ-+ℤ_cancel x y)))

  -- a sum
  pub residue-sum : (n : ℕ) (f : ℕ → ℤ) → Cong m (residue m (sumℤ n f)) (sum n (λ i. residue m (f i)))
  unfolding sumℤ sum
  residue-sum zero f = residue_pos 0
  residue-sum (suc n) f =
      cong_trans (residue-add (f 0) (sumℤ n (λ i. f (suc i))))
      (cong_add-left (residue m (f 0)) (residue-sum n (λ i. f (suc i))))

  -- a power
  pub residue_power : (z : ℤ) (n : ℕ) → Cong m (residue m (powerℤ z n)) (residue m z ^ n)
  unfolding powerℤ
  residue_power z zero = cong_trans (residue_pos 1) (cong_of_eq m (sym (pow-zero (residue m z))))
  residue_power z (suc n) =
      cong_trans (residue-mul (powerℤ z n) z)
      (cong_trans (cong_mul_right (residue m z) (residue_power z n)) (cong_of_eq m (sym (pow-suc (residue m z) n))))

  -- a falling factorial
  pub residue-falling : (z : ℤ) (n : ℕ) → Cong m (residue m (fallingℤ z n)) (falling (residue m z) n)
  unfolding fallingℤ falling
  residue-falling z zero = residue_pos 1
  residue-falling z (suc n) =
      let r = residue m z in
      let R = residue m (z -ℤ pos n) in
      let less : Cong m (R + n) r =
      cong_trans (cong_add-left R (cong_sym (residue_pos n))) (residue-sub z (pos n)) in
      cong_trans (residue-mul (fallingℤ z n) (z -ℤ pos n))
      (cong_trans (cong_mul_right R (residue-falling z n))
      (cong_add_cancel (n * falling r n)
      (cong_trans (cong_of_eq m {a = falling r n * R + n * falling r n} {b = (R + n) * falling r n} (omega arith))
      (cong_trans (cong_mul_right (falling r n) less) (cong_of_eq m (mul-falling r n))))))

  module _ (f : ℤ → ℕ → ℤ) (g : ℕ → ℕ → ℕ) (factor : (z : ℤ) (e : ℕ) → Cong m (residue m (f z e)) (g (residue m z) e)) where
    -- a product over variables
    pub residue-product : (k : ℕ) (zs : List ℤ) (es : List ℕ) → Cong m (residue m (productℤ f k zs es)) (product g k (map (residue m) zs) es)
    unfolding productℤ product residue
    residue-product zero zs es = residue_pos 1
    residue-product (suc k) [] es =
        cong_trans (residue-mul (f (pos 0) (at es 0)) (productℤ f k [] (drop 1 es)))
        (cong_mul
        (cong_trans (factor (pos 0) (at es 0)) (cong_of_eq m (ap (λ x. g x (at es 0)) (zero-mod m))))
        (residue-product k [] (drop 1 es)))
    residue-product (suc k) (z ∷ zs) es =
        cong_trans (residue-mul (f z (at es 0)) (productℤ f k zs (drop 1 es)))
        (cong_mul (factor z (at es 0)) (residue-product k zs (drop 1 es)))

  -- the value of a coefficient box at a whole-number point is its value at the residues
  pub residue-box_at : (ds c : List ℕ) (zs : List ℤ) → residue m (box_at ds c zs) ≡ value m ds c (map (residue m) zs)
  unfolding box_at value
  residue-box_at ds c zs =
      eq_of_cong (residue-lt _) (mod-lt _ positive)
      (cong_trans (residue-sum (cells ds) _) (cong_trans (sum_cong (cells ds) (λ n h. term n)) (cong_sym (mod-cong m _))))
    where
      term : (n : ℕ) →
          Cong m (residue m (productℤ fallingℤ (length ds) zs (digits ds n) *ℤ pos (at c n)))
          (product falling (length ds) (map (residue m) zs) (digits ds n) * at c n)
      term n =
          cong_trans (residue-mul (productℤ fallingℤ (length ds) zs (digits ds n)) (pos (at c n)))
          (cong_mul (residue-product fallingℤ falling residue-falling (length ds) zs (digits ds n)) (residue_pos (at c n)))

-- residues modulo a multiple of n are, modulo n, those modulo n
pub residue_of_mul : (n k : ℕ) (z : ℤ) → 0 < n → 0 < k → Cong n (residue (n * k) z) (residue n z)
residue_of_mul n k z p q = stands_unique (record { part = cong_of_mul n k (stands_residue (mul-pos p q) z).part }) (stands_residue p z)
