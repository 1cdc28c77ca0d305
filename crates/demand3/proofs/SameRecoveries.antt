-- Recoveries of one polynomial, at supports in any order and at any degrees that it fits, are the same form.
-- A polynomial over all variables that fits the box of a support is a polynomial over the support, with the exponents picked there (`terms_restricted`),
-- so each recovery has its values.
use Rattle.std.specs.Prelude.{◌≡◌, refl, ℕ, ◌^◌, ◌<◌, List, [], ◌∷◌, map, ℤ, pos, ◌*ℤ◌, length}
use Rattle.std.proofs.Common.{sym, ap, ap₂, ◌∙◌, pow_pos}
use Rattle.std.proofs.Math.Nat.{pow-zero}
use Rattle.std.proofs.lemmas.List.{length-map}
use Rattle.std.proofs.Math.ListN.{get_or-map}
use Rattle.meaning.specs.Boxes.{digits, Within}
use Rattle.meaning.specs.Values.{product}
use Rattle.meaning.specs.Integers.{residue, powerℤ}
use Rattle.meaning.specs.Polynomials.{productℤ, Term, Terms, no_terms, one_more, terms_at}
use Rattle.meaning.specs.Tables.{at}
use Rattle.meaning.specs.Sameness.{coordinates, form_value, Same, scattered, picked}
use Rattle.theory.specs.Congruence.{Cong, cong_of_eq, cong_refl, cong_sym, cong_trans, cong_add, cong_mul-left, eq_of_cong}
use Rattle.theory.specs.Integers.{residue-lt, residue-add, residue-mul, residue_power, residue-product}
use Rattle.theory.specs.Scattered.{Places, picked-within, scattered-picked, product-scattered}
use Rattle.theory.specs.SpreadBoxes.{picked-digits}
use Rattle.theory.specs.SameForms.{form, residue_coordinate}
use Rattle.demand3.specs.Words.{polynomial_value, Agreeing, AgreeingOver}
use Rattle.demand3.specs.Promises.{Decides}

-- the polynomial with the exponents of the support only
abbrev restricted : List ℕ → List Term → List Term
restricted ps p = map (λ t. record { coefficient = t.coefficient; exponents = picked ps t.exponents }) p

module _ (n : ℕ) (ps ds : List ℕ) (places : Places n ps) (sized : length ds ≡ length ps) where
  -- what fits the scattered degrees fits the degrees
  restricted_terms : {p : List Term} → Terms (scattered n ps ds) p → Terms ds (restricted ps p)
  restricted_terms no_terms = no_terms
  restricted_terms (one_more {t} w r) = one_more (picked-within ds t.exponents places sized w) (restricted_terms r)

  -- the product of the powers, over all variables and over the support
  product-restricted : (xs es : List ℕ) → Within (scattered n ps ds) es → product ◌^◌ n xs es ≡ product ◌^◌ (length ds) (picked ps xs) (picked ps es)
  product-restricted xs es w =
      ap (product ◌^◌ n xs) (sym (scattered-picked ds es places sized w))
      ∙ product-scattered ◌^◌ pow-zero xs (picked ps es) places (length-map ps (at es))
      ∙ ap (λ (k : ℕ). product ◌^◌ k (picked ps xs) (picked ps es)) (length-map ps (at es) ∙ sym sized)

  -- the polynomial has at every point the value of its restriction at the coordinates of the support
  module _ {m : ℕ} (positive : 0 < m) (zs : List ℤ) where
    product_cong : (es : List ℕ) → Within (scattered n ps ds) es
        → Cong m (residue m (productℤ powerℤ n zs es)) (residue m (productℤ powerℤ (length ds) (coordinates ps zs) (picked ps es)))
    product_cong es w =
        cong_trans (residue-product positive powerℤ ◌^◌ (residue_power positive) n zs es)
        (cong_trans (cong_of_eq m (product-restricted (map (residue m) zs) es w
        ∙ ap (λ (xs : List ℕ). product ◌^◌ (length ds) xs (picked ps es)) (sym (residue_coordinate m ps zs))))
        (cong_sym (residue-product positive powerℤ ◌^◌ (residue_power positive) (length ds) (coordinates ps zs) (picked ps es))))

    terms_cong : {p : List Term} → Terms (scattered n ps ds) p
        → Cong m (residue m (terms_at n p zs)) (residue m (terms_at (length ds) (restricted ps p) (coordinates ps zs)))
    unfolding terms_at
    terms_cong no_terms = cong_refl _
    terms_cong (one_more {t} {ts} w r) =
        cong_trans (residue-add positive (t.coefficient *ℤ productℤ powerℤ n zs t.exponents) (terms_at n ts zs))
        (cong_trans
        (cong_add
        (cong_trans (residue-mul positive t.coefficient (productℤ powerℤ n zs t.exponents))
        (cong_trans (cong_mul-left (residue m t.coefficient) (product_cong t.exponents w))
        (cong_sym (residue-mul positive t.coefficient (productℤ powerℤ (length ds) (coordinates ps zs) (picked ps t.exponents))))))
        (terms_cong r))
        (cong_sym (residue-add positive (t.coefficient *ℤ productℤ powerℤ (length ds) (coordinates ps zs) (picked ps t.exponents))
        (terms_at (length ds) (restricted ps ts) (coordinates ps zs)))))

    terms_restricted : {p : List Term} → Terms (scattered n ps ds) p
        → residue m (terms_at (length ds) (restricted ps p) (coordinates ps zs)) ≡ residue m (terms_at n p zs)
    terms_restricted t = eq_of_cong (residue-lt positive _) (residue-lt positive _) (cong_sym (terms_cong t))

  -- the coordinates of a scattered grid point are those of the grid point
  coordinates-scattered : (k : ℕ) → coordinates ps (map pos (scattered n ps (digits ds k))) ≡ map pos (digits ds k)
  coordinates-scattered k = naturals ps ∙ ap (map pos) (picked-digits n ps ds [] places sized k)
    where
      xs : List ℕ
      xs = scattered n ps (digits ds k)

      naturals : (qs : List ℕ) → coordinates qs (map pos xs) ≡ map pos (picked qs xs)
      naturals [] = refl
      naturals (q ∷ qs) = ap₂ ◌∷◌ (get_or-map pos xs q 0) (naturals qs)

  -- so the restriction agrees with the grid
  agreeing_restricted : {w : ℕ} {v : List ℕ} {p : List Term} → AgreeingOver n w ps ds v p → Agreeing w ds v (restricted ps p)
  agreeing_restricted {w} {v} {p} a =
      record {
        degrees = restricted_terms a.degrees;
        everywhere = λ k h.
            ap (polynomial_value w ds (restricted ps p)) (sym (coordinates-scattered k))
            ∙ terms_restricted (pow_pos w) (map pos (scattered n ps (digits ds k))) a.degrees
            ∙ a.everywhere k h;
      }

  -- and an accepted recovery has the polynomial's values
  recovered_values : {C : Type 0} {w : ℕ} {v : List ℕ} {number : ℕ} {after : List ℕ} {p : List Term}
      → Decides C w ds v number after → number ≡ 0 → AgreeingOver n w ps ds v p
      → (zs : List ℤ) → form_value (form n w ps ds after) zs ≡ residue (2 ^ w) (terms_at n p zs)
  recovered_values {p = p} call zero a zs =
      call.values zero (restricted ps p) (agreeing_restricted a) (coordinates ps zs) ∙ terms_restricted (pow_pos _) zs a.degrees

-- so two of them are the same
pub recoveries_same : {C C' : Type 0} {n w : ℕ} {ps ds v qs fs u : List ℕ} {k k' : ℕ} {after after' : List ℕ} → (p : List Term)
    → Places n ps → length ds ≡ length ps → Decides C w ds v k after → k ≡ 0 → AgreeingOver n w ps ds v p
    → Places n qs → length fs ≡ length qs → Decides C' w fs u k' after' → k' ≡ 0 → AgreeingOver n w qs fs u p
    → Same (form n w ps ds after) (form n w qs fs after')
recoveries_same {n = n} {ps = ps} {ds = ds} {qs = qs} {fs = fs} p places sized call zero agrees places' sized' call' zero' agrees' =
    record {
      totals = refl;
      widths = refl;
      values = λ zs l.
          recovered_values n ps ds places sized call zero agrees zs ∙ sym (recovered_values n qs fs places' sized' call' zero' agrees' zs);
    }
