-- The inverses of cells, as products of the inverses of their exponents, and how far a table of these reaches.
use Rattle.std.specs.Prelude.{nat_lt}
use Rattle.std.specs.List.{list_all}
use Rattle.std.proofs.Common.{◌≡◌, ℕ, zero, suc, ◌*◌, ◌%◌, ◌^◌, ◌<◌, Bool, true, false, ◌&&◌, ltb, List, [], ◌∷◌, ◌++◌, length, sym, refl, ap, ◌∙◌, true≢false, le_of_suc-le-suc, not-suc-le-zero, mul_comm, mul-one, arith, ltb-true, append-nil, append_assoc}
use Rattle.std.proofs.lemmas.Grind.{get_or_default_zero}
use Rattle.meaning.specs.Tables.{at}
use Rattle.meaning.specs.Factorials.{factorial, odd_part}
use Rattle.meaning.specs.Inverses.{inverse}
use Rattle.meaning.specs.Boxes.{Within, none, next}
use Rattle.meaning.specs.Values.{odd_factor}
use Rattle.multivar_poly_recovery.specs.Extracted.{Inverses, Reaching, unit}
use Rattle.multivar_poly_recovery.specs.Products.{times, inverse_one}
use Rattle.multivar_poly_recovery.proofs.CellFactors.{inverse_parts}

pub no_unit : 1 ≡ unit []
unfolding odd_factor
no_unit = inverse_one

single : (e : ℕ) → unit (e ∷ []) ≡ inverse (odd_part (factorial e)) 64
unfolding odd_factor
single e = ap (λ (x : ℕ). inverse x 64) (mul-one (odd_part (factorial e)))

-- one exponent more at the end
pub unit_more : (es : List ℕ) (e v : ℕ) → v ≡ inverse (odd_part (factorial e)) 64 → unit (es ++ (e ∷ [])) ≡ (unit es * v) % 2 ^ 64
unit_more es e v h =
    sym
    (ap (λ (x : ℕ). (unit es * x) % 2 ^ 64) (h ∙ sym (single e))
    ∙ ap (◌% 2 ^ 64) (mul_comm (unit es) (unit (e ∷ [])))
    ∙ inverse_parts es (e ∷ []))

-- the product of a table's inverses is the inverse of the product, within its reach
pub times-unit : (t : List ℕ) → Inverses t → {ds es : List ℕ} → Within ds es → Reaching ds (length t) → (hs : List ℕ) → times t (unit hs) es ≡ unit (hs ++ es)
times-unit t serve none reach hs = ap unit (sym (append-nil hs))
times-unit t serve (next {d} {e} {ds} {es} few w) reach hs =
    let inside : e < length t = omega (arith, few, reach 0 (omega arith)) in
    ap (λ (u : ℕ). times t u es)
    (ap (λ (v : ℕ). (unit hs * v) % 2 ^ 64) (get_or_default_zero t e 1 inside) ∙ sym (unit_more hs e (at t e) (serve e inside)))
    ∙ times-unit t serve w (λ i h. reach (suc i) (omega (arith, h))) (hs ++ (e ∷ []))
    ∙ ap unit (append_assoc hs (e ∷ []) es)

-- ---- degrees to 15

pub reaching_16 : (ds : List ℕ) → list_all (λ d. nat_lt d 16) ds ≡ true → Reaching ds 16
reaching_16 [] e = λ i h. absurd (not-suc-le-zero h)
reaching_16 (d ∷ ds) e = go (ltb d 16) refl e (reaching_16 ds)
  where
    go : (b : Bool) → ltb d 16 ≡ b → (b && list_all (λ d. nat_lt d 16) ds) ≡ true → (list_all (λ d. nat_lt d 16) ds ≡ true → Reaching ds 16)
        → Reaching (d ∷ ds) 16
    go true l e rest zero h = ltb-true d 16 l
    go true l e rest (suc i) h = rest e i (le_of_suc-le-suc h)
    go false l e rest i h = absurd (true≢false (sym e))
