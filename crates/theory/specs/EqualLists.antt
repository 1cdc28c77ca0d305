-- The test that two lists are equal, and its 1 or 0 as a product over the entries.
use Rattle.std.specs.Prelude.{◌≡◌, refl, ◌↔◌, Bool, true, false, ◌&&◌, ℕ, zero, suc, ◌*◌, List, [], ◌∷◌, T, eqb, length}
use Rattle.std.proofs.Common.{sym, ap, ap₂, subst, ◌∙◌, arith, eqb→eq}
use Rattle.std.proofs.Math.Dec.{eqb_refl, eqb-zero-suc, eqb-suc-zero, eqb-suc-suc}
use Rattle.meaning.specs.Boxes.{Within, none, next}
use Rattle.meaning.specs.Values.{product}
use Rattle.meaning.specs.Calls.{same_list, truth}
use Rattle.theory.specs.Every.{and_iff}
use Rattle.theory.specs.StirlingNumbers.{delta}

-- the test holds exactly for equal lists
pub same_list-iff : (es fs : List ℕ) → T (same_list es fs) ↔ (es ≡ fs)
unfolding same_list
same_list-iff es fs = (there es fs, λ e. subst (λ (gs : List ℕ). T (same_list es gs)) e (same es))
  where
    same : (es : List ℕ) → T (same_list es es)
    same [] = tt
    same (e ∷ es) = (and_iff (eqb e e) (same_list es es)).1 (eqb_refl e, same es)

    there : (es fs : List ℕ) → T (same_list es fs) → es ≡ fs
    there [] [] t = refl
    there [] (f ∷ fs) t = absurd t
    there (e ∷ es) [] t = absurd t
    there (e ∷ es) (f ∷ fs) t =
        let b = (and_iff (eqb e f) (same_list es fs)).0 t in
        ap₂ ◌∷◌ (eqb→eq e f b.0) (there es fs b.1)

-- lists are the same, or the test says that they are not
pub same_true : (f es : List ℕ) → f ≡ es → same_list f es ≡ true
same_true f es e = go (same_list f es) ((same_list-iff f es).1 e)
  where
    go : (b : Bool) → T b → b ≡ true
    go true t = refl
    go false t = absurd t

pub same_false : (f es : List ℕ) → (f ≡ es → ⊥) → same_list f es ≡ false
same_false f es h = go (same_list f es) (λ t. h ((same_list-iff f es).0 t))
  where
    go : (b : Bool) → (T b → ⊥) → b ≡ false
    go true t = absurd (t tt)
    go false t = refl

-- ---- as a product

-- 1 where the numbers are equal, else 0
delta-eq : (j e : ℕ) → delta j e ≡ truth (eqb e j)
unfolding delta
delta-eq zero zero = refl
delta-eq zero (suc e) = ap truth (sym (eqb-suc-zero e))
delta-eq (suc j) zero = ap truth (sym (eqb-zero-suc j))
delta-eq (suc j) (suc e) = delta-eq j e ∙ ap truth (sym (eqb-suc-suc e j))

truth_and : (a b : Bool) → truth a * truth b ≡ truth (a && b)
truth_and true b = omega arith
truth_and false b = omega arith

-- 1 where the lists are equal, else 0
pub product-delta : {ds js es : List ℕ} → Within ds js → Within ds es → product delta (length ds) js es ≡ truth (same_list es js)
unfolding product same_list
product-delta none none = refl
product-delta (next {e = j} {es = js} p u) (next {e = e} {es = es} q w) =
    ap₂ ◌*◌ (delta-eq j e) (product-delta u w) ∙ truth_and (eqb e j) (same_list es js)
