-- Whole-number polynomials and boxes of power coefficients modulo m: the terms of a polynomial gathered cell by cell, and the polynomial with a
-- term for each cell. At every whole-number point the residue of the polynomial is the evaluation of its box by powers at the residues.
use Rattle.std.specs.Prelude.{◌≡◌, List, [], ◌∷◌, map, ℤ, ◌*ℤ◌, length, drop, ℕ, zero, suc, ◌+◌, ◌*◌, ◌^◌, ◌<◌, pos}
use Rattle.std.proofs.Common.{sym, ◌∙◌, mul-zero, mul_comm, arith, ap, suc-le-suc}
use Rattle.meaning.specs.Tables.{at}
use Rattle.meaning.specs.Sums.{sum}
use Rattle.meaning.specs.Boxes.{cells, digits, Within, none, next}
use Rattle.meaning.specs.Values.{product}
use Rattle.meaning.specs.Integers.{residue, powerℤ}
use Rattle.meaning.specs.Polynomials.{productℤ, Term, terms_at, Terms, no_terms, one_more, Polynomial, polynomial_at}
use Rattle.theory.specs.Congruence.{Cong, cong_of_eq, cong_trans, cong_add, cong_mul-left}
use Rattle.theory.specs.Sums.{sum_eq, sum_cong}
use Rattle.theory.specs.Boxes.{box_sum-zero, digits-within}
use Rattle.theory.specs.Evaluation.{eval, eval-nil, eval-cons, eval-eq, eval_add}
use Rattle.theory.specs.Integers.{residue_pos, residue-add, residue-mul, residue_power, residue-product}
use Rattle.theory.specs.StirlingNumbers.{delta, sum-delta}
use Rattle.theory.specs.Values.{entry, eval-entry}

-- coefficients that are 0 have the value 0
pub eval-zero : (f : ℕ → ℕ → ℕ) (ds xs : List ℕ) → eval f ds (λ es. 0) xs ≡ 0
unfolding eval
eval-zero f ds xs = box_sum-zero ds (λ es w. mul-zero (product f (length ds) xs es))

-- one coefficient a at the list es, and 0 elsewhere, has the value of that one term
pub eval-one : (f : ℕ → ℕ → ℕ) (a : ℕ) {ds es : List ℕ} (xs : List ℕ) → Within ds es
    → eval f ds (λ js. product delta (length ds) js es * a) xs ≡ product f (length ds) xs es * a
unfolding product
eval-one f a xs none = eval-nil f (λ js. 1 * a) xs
eval-one f a xs (next {d} {e} {ds} {es} p w) =
    eval-cons f d ds (λ js. delta (at js 0) e * product delta (length ds) (drop 1 js) es * a) xs
    ∙ sum_eq (suc d) (λ j q. ap (f x j *◌) (eval-eq f ds (drop 1 xs) (λ js u. part j js) ∙ eval-one f (delta j e * a) (drop 1 xs) w) ∙ apart j)
    ∙ sum-delta (suc d) e (λ j. f x j * P * a) (suc-le-suc p)
  where
    x : ℕ
    x = at xs 0

    P : ℕ
    P = product f (length ds) (drop 1 xs) es

    part : (j : ℕ) (js : List ℕ) → delta j e * product delta (length ds) js es * a ≡ product delta (length ds) js es * (delta j e * a)
    part j js = omega arith

    apart : (j : ℕ) → f x j * (P * (delta j e * a)) ≡ delta j e * (f x j * P * a)
    apart j = omega arith

-- the terms with the exponents js, gathered, in k variables
unfoldable pub gathered : ℕ → ℕ → List Term → List ℕ → ℕ
gathered m k [] js = 0
gathered m k (t ∷ ts) js = product delta k js t.exponents * residue m t.coefficient + gathered m k ts js

-- n terms given by a rule
unfoldable pub terms_of : ℕ → (ℕ → Term) → List Term
terms_of zero f = []
terms_of (suc n) f = f 0 ∷ terms_of n (λ i. f (suc i))

pub terms_of-within : (ds : List ℕ) (n : ℕ) (f : ℕ → Term) → ((i : ℕ) → Within ds (f i).exponents) → Terms ds (terms_of n f)
unfolding terms_of
terms_of-within ds zero f h = no_terms
terms_of-within ds (suc n) f h = one_more (h 0) (terms_of-within ds n (λ i. f (suc i)) (λ i. h (suc i)))

-- the polynomial with the coefficients of a table
unfoldable pub polynomial_of : (ds a : List ℕ) → Polynomial ds
polynomial_of ds a =
    let term : ℕ → Term = λ n. record { coefficient = pos (at a n); exponents = digits ds n } in
    record { terms = terms_of (cells ds) term; within = terms_of-within ds (cells ds) term (digits-within ds) }

module _ {m : ℕ} (positive : 0 < m) where
  -- the residue of a term
  pub residue-term : (k : ℕ) (t : Term) (zs : List ℤ)
      → Cong m (residue m (t.coefficient *ℤ productℤ powerℤ k zs t.exponents))
      (product ◌^◌ k (map (residue m) zs) t.exponents * residue m t.coefficient)
  residue-term k t zs =
      cong_trans (residue-mul positive t.coefficient (productℤ powerℤ k zs t.exponents))
      (cong_trans (cong_mul-left (residue m t.coefficient) (residue-product positive powerℤ ◌^◌ (residue_power positive) k zs t.exponents))
      (cong_of_eq m (mul_comm (residue m t.coefficient) (product ◌^◌ k (map (residue m) zs) t.exponents))))

  -- the residue of a sum of terms is the evaluation of the gathered coefficients
  pub residue-terms_at : {ds : List ℕ} {ts : List Term} (zs : List ℤ) → Terms ds ts
      → Cong m (residue m (terms_at (length ds) ts zs)) (eval ◌^◌ ds (gathered m (length ds) ts) (map (residue m) zs))
  unfolding terms_at gathered
  residue-terms_at {ds} zs no_terms = cong_trans (residue_pos positive 0) (cong_of_eq m (sym (eval-zero ◌^◌ ds (map (residue m) zs))))
  residue-terms_at {ds} zs (one_more {t} {ts} w r) =
      cong_trans (residue-add positive (t.coefficient *ℤ productℤ powerℤ (length ds) zs t.exponents) (terms_at (length ds) ts zs))
      (cong_trans (cong_add (residue-term (length ds) t zs) (residue-terms_at zs r))
      (cong_of_eq m
      (sym
      (eval_add ◌^◌ ds (λ js. product delta (length ds) js t.exponents * residue m t.coefficient) (gathered m (length ds) ts) (map (residue m) zs)
      ∙ ap (◌+ eval ◌^◌ ds (gathered m (length ds) ts) (map (residue m) zs)) (eval-one ◌^◌ (residue m t.coefficient) (map (residue m) zs) w)))))

  -- the residue of terms given by a rule is the sum of theirs
  pub residue-terms_of : (k n : ℕ) (f : ℕ → Term) (zs : List ℤ)
      → Cong m (residue m (terms_at k (terms_of n f) zs))
      (sum n (λ i. product ◌^◌ k (map (residue m) zs) (f i).exponents * residue m (f i).coefficient))
  unfolding terms_at terms_of sum
  residue-terms_of k zero f zs = residue_pos positive 0
  residue-terms_of k (suc n) f zs =
      cong_trans (residue-add positive ((f 0).coefficient *ℤ productℤ powerℤ k zs (f 0).exponents) (terms_at k (terms_of n (λ i. f (suc i))) zs))
      (cong_add (residue-term k (f 0) zs) (residue-terms_of k n (λ i. f (suc i)) zs))

  -- the residue of the polynomial with the coefficients of a table is the table's evaluation
  pub residue-polynomial_of : (ds a : List ℕ) (zs : List ℤ)
      → Cong m (residue m (polynomial_at ds (polynomial_of ds a) zs)) (eval ◌^◌ ds (entry ds a) (map (residue m) zs))
  unfolding polynomial_at polynomial_of
  residue-polynomial_of ds a zs =
      cong_trans (residue-terms_of (length ds) (cells ds) (λ n. record { coefficient = pos (at a n); exponents = digits ds n }) zs)
      (cong_trans
      (sum_cong (cells ds) (λ n p. cong_mul-left (product ◌^◌ (length ds) (map (residue m) zs) (digits ds n)) (residue_pos positive (at a n))))
      (cong_of_eq m (sym (eval-entry ◌^◌ ds a (map (residue m) zs)))))
