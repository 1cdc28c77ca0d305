-- Recovery modulo m: from a function on the grid to falling-factorial coefficients, and that there are no others.
-- The hinge is `eval-falling`: the value of falling coefficients c is Newton's series of c times the factorials, exactly. So the coefficients that
-- agree with a function on the grid are those whose products with the factorials are its differences, and the law of one cell says which they are.
use Rattle.std.specs.Prelude.{◌≡◌, refl, ℕ, ◌*◌, ◌/◌, ◌%◌, ◌<◌, List, [], ◌∷◌, length, drop}
use Rattle.std.proofs.Common.{sym, ap, ap₂, ◌∙◌, mul_assoc, mul_comm, arith}
use Rattle.std.proofs.Math.Nat.{mod-mod}
use Rattle.meaning.specs.Tables.{at}
use Rattle.meaning.specs.Factorials.{falling}
use Rattle.meaning.specs.Boxes.{Within}
use Rattle.meaning.specs.Values.{product}
use Rattle.meaning.specs.Differences.{differences}
use Rattle.theory.specs.Congruence.{Cong, cong_of_eq, cong_sym, cong_trans}
use Rattle.theory.specs.Binomials.{choose, falling-eq-factorial-mul-choose}
use Rattle.theory.specs.Boxes.{length-within, box_sum-eq}
use Rattle.theory.specs.Evaluation.{eval, eval_cong, differences_expansion, differences_unique}
use Rattle.theory.specs.OneCell.{OneCell, mul-factor-iff, mul-factor_same}
use Rattle.theory.specs.Widths.{factorials}

-- a product of falling factorials is one of binomial coefficients times the factorials
pub product-falling : (xs es : List ℕ) → product falling (length es) xs es ≡ product choose (length es) xs es * factorials es
unfolding product factorials
product-falling xs [] = refl
product-falling xs (e ∷ es) =
    ap₂ ◌*◌ (falling-eq-factorial-mul-choose (at xs 0) e) (product-falling (drop 1 xs) es) ∙ omega arith

-- the value of falling coefficients is Newton's series of their products with the factorials
pub eval-falling : (ds : List ℕ) (c : List ℕ → ℕ) (xs : List ℕ) → eval falling ds c xs ≡ eval choose ds (λ es. factorials es * c es) xs
unfolding eval
eval-falling ds c xs = box_sum-eq ds term
  where
    term : (es : List ℕ) → Within ds es → product falling (length ds) xs es * c es ≡ product choose (length ds) xs es * (factorials es * c es)
    term es w =
        ap (λ (k : ℕ). product falling k xs es * c es) (sym (length-within w))
        ∙ ap (◌* c es) (product-falling xs es)
        ∙ ap (λ (k : ℕ). product choose k xs es * factorials es * c es) (length-within w)
        ∙ mul_assoc (product choose (length ds) xs es) (factorials es) (c es)

-- the coefficient of a difference D
abbrev pub solution : {m f : ℕ} → OneCell m f → ℕ → ℕ
solution o D = (D / o.g * o.u) % o.h

-- the coefficients c agree, modulo m, with the function v on the grid
pub record Fits (m : ℕ) (ds : List ℕ) (c v : List ℕ → ℕ) : Type 0 where
  pub fits : (xs : List ℕ) → Within ds xs → Cong m (eval falling ds c xs) (v xs)

module _ {m : ℕ} (pos : 0 < m) (o : (es : List ℕ) → OneCell m (factorials es)) (ds : List ℕ) where
  -- coefficients that are congruent modulo what is left of m in each cell have congruent values everywhere
  pub eval-falling_cong : (c d : List ℕ → ℕ) (xs : List ℕ)
      → ((es : List ℕ) → Within ds es → Cong (o es).h (c es) (d es)) → Cong m (eval falling ds c xs) (eval falling ds d xs)
  eval-falling_cong c d xs h =
      cong_trans (cong_of_eq m (eval-falling ds c xs))
      (cong_trans (eval_cong choose ds xs term) (cong_of_eq m (sym (eval-falling ds d xs))))
    where
      term : (es : List ℕ) → Within ds es → Cong m (factorials es * c es) (factorials es * d es)
      term es w =
          cong_trans (cong_of_eq m (mul_comm (factorials es) (c es)))
          (cong_trans ((mul-factor_same (o es) (c es) (d es)).1 (h es w)) (cong_of_eq m (mul_comm (d es) (factorials es))))

  -- where every difference passes, the solutions agree
  pub solution-fits : (v : List ℕ → ℕ) → ((es : List ℕ) → Within ds es → differences m ds v es % (o es).g ≡ 0)
      → Fits m ds (λ es. solution (o es) (differences m ds v es)) v
  solution-fits v pass =
      record {
        fits = λ xs w.
            cong_trans (cong_of_eq m (eval-falling ds (λ es. solution (o es) (D es)) xs))
            (cong_trans (eval_cong choose ds xs term) (cong_sym (differences_expansion pos v w)));
      }
    where
      D : List ℕ → ℕ
      D = differences m ds v

      term : (es : List ℕ) → Within ds es → Cong m (factorials es * solution (o es) (D es)) (D es)
      term es w =
          cong_trans (cong_of_eq m (mul_comm (factorials es) (solution (o es) (D es))))
          (record { same = (mul-factor-iff (o es) (solution (o es) (D es)) (D es)).1 (pass es w, mod-mod (D es / (o es).g * (o es).u) (o es).h) })

  -- where some coefficients agree, every difference passes, and the coefficients are the solutions
  pub fits_solved : (c v : List ℕ → ℕ) (es : List ℕ) → Fits m ds c v → Within ds es
      → (differences m ds v es % (o es).g ≡ 0) × (c es % (o es).h ≡ solution (o es) (differences m ds v es))
  fits_solved c v es a w = (mul-factor-iff (o es) (c es) (differences m ds v es)).0 (cong_trans (cong_of_eq m (mul_comm (c es) (factorials es))) same).same
    where
      same : Cong m (factorials es * c es) (differences m ds v es)
      same =
          differences_unique pos v (λ es. factorials es * c es)
          (λ xs u. cong_trans (cong_sym (a.fits xs u)) (cong_of_eq m (eval-falling ds c xs))) w

  -- coefficients that agree with the same function have congruent values everywhere
  pub fits_same : (c d v : List ℕ → ℕ) (xs : List ℕ) → Fits m ds c v → Fits m ds d v → Cong m (eval falling ds c xs) (eval falling ds d xs)
  fits_same c d v xs a b =
      eval-falling_cong c d xs (λ es w. record { same = (fits_solved c v es a w).1 ∙ sym (fits_solved d v es b w).1 })
