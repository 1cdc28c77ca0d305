-- Polynomials of any exponents, modulo m. Where every power of a coordinate is a sum of falling factorials to at most its degree, a polynomial, whatever its
-- exponents, has at that point the value of a box: each term is cut to the box by Stirling's numbers. That is so at every grid point, where a falling
-- factorial above the degree is 0.
use Rattle.std.specs.Prelude.{◌≡◌, ℤ, ◌*ℤ◌, drop, ℕ, suc, ◌+◌, ◌*◌, ◌%◌, ◌^◌, ◌≤◌, ◌<◌, List, [], ◌∷◌, map, pos, length}
use Rattle.std.proofs.Common.{sym, ◌∙◌, inr, arith}
use Rattle.std.proofs.Math.Nat.{mod-le}
use Rattle.meaning.specs.Tables.{tabulate, at}
use Rattle.meaning.specs.Sums.{sum}
use Rattle.meaning.specs.Factorials.{falling}
use Rattle.meaning.specs.Boxes.{cells, digits, Within, none, next}
use Rattle.meaning.specs.Values.{product, value, Agrees}
use Rattle.meaning.specs.Integers.{residue, powerℤ}
use Rattle.meaning.specs.Stirling.{stirling2}
use Rattle.meaning.specs.Polynomials.{productℤ, Term, terms_at}
use Rattle.theory.specs.Congruence.{Cong, cong_of_eq, cong_sym, cong_trans, cong_add, cong_mul-left, cong_mul_right, eq_of_cong}
use Rattle.theory.specs.Sums.{sum_cong, sum-mul_right}
use Rattle.theory.specs.StirlingNumbers.{power_eq-sum-falling}
use Rattle.theory.specs.Boxes.{digits-within}
use Rattle.theory.specs.Evaluation.{eval, eval-nil, eval-cons, eval-eq, eval_add, Each, done, more}
use Rattle.theory.specs.Integers.{residue-lt, residue_pos, residue-add}
use Rattle.theory.specs.PowerBoxes.{eval-zero, residue-term}
use Rattle.theory.specs.Values.{entry-tabulate, value-lt, value_cong_eval, value_cong_point}
use Rattle.theory.specs.WholeNumbers.{residue-coordinates}

-- the coefficient of the falling factorial to j in the power to e
abbrev of_power : ℕ → ℕ → ℕ
of_power j e = stirling2 e j

-- modulo m every power of x is a sum of falling factorials to at most d
abbrev pub Cuts : ℕ → ℕ → ℕ → Type 0
Cuts m d x = (e : ℕ) → Cong m (sum (suc d) (λ j. stirling2 e j * falling x j)) (x ^ e)

-- the coefficients of a polynomial in k variables, cut to a box
unfoldable cut : ℕ → ℕ → List Term → List ℕ → ℕ
cut m k [] js = 0
cut m k (t ∷ ts) js = product of_power k js t.exponents * residue m t.coefficient + cut m k ts js

pub cut_box : ℕ → List ℕ → List Term → List ℕ
cut_box m ds p = tabulate (cells ds) (λ n. cut m (length ds) p (digits ds n))

-- one term
power_cut : {m : ℕ} (a : ℕ) {ds xs : List ℕ} (es : List ℕ) → Each (Cuts m) ds xs
    → Cong m (eval falling ds (λ js. product of_power (length ds) js es * a) xs) (product ◌^◌ (length ds) xs es * a)
unfolding product
power_cut {m} a {xs = xs} es done = cong_of_eq m (eval-nil falling (λ js. 1 * a) xs)
power_cut {m} a {xs = xs} es (more {d} {ds} p r) =
    cong_trans
    (cong_of_eq m (eval-cons falling d ds (λ js. of_power (at js 0) e * product of_power (length ds) (drop 1 js) (drop 1 es) * a) xs))
    (cong_trans
    (sum_cong (suc d) (λ j q.
    cong_trans
    (cong_mul-left (falling x j)
    (cong_trans (cong_of_eq m (eval-eq falling ds (drop 1 xs) (λ js u. part j js))) (power_cut (of_power j e * a) (drop 1 es) r)))
    (cong_of_eq m (apart j))))
    (cong_trans (cong_of_eq m (sum-mul_right (suc d) (P * a) (λ j. of_power j e * falling x j)))
    (cong_trans (cong_mul_right (P * a) (p e)) (cong_of_eq m whole))))
  where
    x : ℕ
    x = at xs 0

    e : ℕ
    e = at es 0

    P : ℕ
    P = product ◌^◌ (length ds) (drop 1 xs) (drop 1 es)

    part : (j : ℕ) (js : List ℕ) → of_power j e * product of_power (length ds) js (drop 1 es) * a ≡ product of_power (length ds) js (drop 1 es) * (of_power j e * a)
    part j js = omega arith

    apart : (j : ℕ) → falling x j * (P * (of_power j e * a)) ≡ of_power j e * falling x j * (P * a)
    apart j = omega arith

    whole : x ^ e * (P * a) ≡ x ^ e * P * a
    whole = omega arith

module _ {m : ℕ} (positive : 0 < m) (ds : List ℕ) where
  -- all terms
  terms_cut : (zs : List ℤ) → Each (Cuts m) ds (map (residue m) zs) → (ts : List Term)
      → Cong m (residue m (terms_at (length ds) ts zs)) (eval falling ds (cut m (length ds) ts) (map (residue m) zs))
  unfolding terms_at cut
  terms_cut zs h [] = cong_trans (residue_pos positive 0) (cong_of_eq m (sym (eval-zero falling ds (map (residue m) zs))))
  terms_cut zs h (t ∷ ts) =
      let k : ℕ = length ds in
      let a : ℕ = residue m t.coefficient in
      let ys : List ℕ = map (residue m) zs in
      cong_trans (residue-add positive (t.coefficient *ℤ productℤ powerℤ k zs t.exponents) (terms_at k ts zs))
      (cong_trans
      (cong_add
      (cong_trans (residue-term positive k t zs) (cong_sym (power_cut a t.exponents h)))
      (terms_cut zs h ts))
      (cong_of_eq m (sym (eval_add falling ds (λ js. product of_power k js t.exponents * a) (cut m k ts) ys))))

  -- the polynomial has the value of its box where the powers can be cut
  pub value_cut_box : (p : List Term) (zs : List ℤ) → Each (Cuts m) ds (map (residue m) zs)
      → value m ds (cut_box m ds p) (map (residue m) zs) ≡ residue m (terms_at (length ds) p zs)
  unfolding cut_box
  value_cut_box p zs h =
      eq_of_cong (value-lt ds (cut_box m ds p) _ positive) (residue-lt positive _)
      (cong_trans (value_cong_eval m ds (cut_box m ds p) _)
      (cong_trans (cong_of_eq m (eval-eq falling ds _ (λ es u. entry-tabulate ds (cut m (length ds) p) es u)))
      (cong_sym (terms_cut zs h p))))

  -- so it has at the grid points
  pub cut_box_agrees : (p : List Term) (v : List ℕ)
      → ((n : ℕ) → n < cells ds → residue m (terms_at (length ds) p (map pos (digits ds n))) ≡ at v n % m) → Agrees m ds (cut_box m ds p) v
  unfolding Agrees residue
  cut_box_agrees p v a n q =
      sym (value_cong_point m ds (cut_box m ds p) (map (residue m) (map pos (digits ds n))) (digits ds n)
      (λ i l. residue-coordinates positive (digits ds n) i))
      ∙ value_cut_box p (map pos (digits ds n)) (cuts-within (digits-within ds n))
      ∙ a n q
    where
      cuts-within : {ds xs : List ℕ} → Within ds xs → Each (Cuts m) ds (map (residue m) (map pos xs))
      cuts-within none = done
      cuts-within (next {d} {e = x} q r) =
          more (λ e. let l : x % m ≤ d = omega (arith, mod-le x m) in cong_of_eq m (sym (power_eq-sum-falling (x % m) e d (inr l)))) (cuts-within r)
