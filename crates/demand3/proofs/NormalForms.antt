-- A polynomial has one normal form under given settings. A normal form is settled by its values on the grid; that there is one is the normaliser's box, from
-- the polynomial's coefficients.
use Rattle.std.specs.Prelude.{◌≡◌, ℕ, ◌-◌, ◌^◌, ◌≤◌, ◌<◌, List, map, pos, length}
use Rattle.std.proofs.Common.{sym, ◌∙◌, lt_of_lt_of_le, arith, pow_pos, pow_mono}
use Rattle.std.proofs.Math.Decide.{dec_lt}
use Rattle.std.proofs.Math.ListN.{get_or-eq_default}
use Rattle.meaning.specs.Tables.{at}
use Rattle.meaning.specs.Values.{weight}
use Rattle.meaning.specs.Boxes.{cells, digits}
use Rattle.meaning.specs.Integers.{residue}
use Rattle.meaning.specs.Polynomials.{Term, Terms}
use Rattle.meaning.specs.Conversions.{normal_box}
use Rattle.theory.specs.Integers.{residue-box_at}
use Rattle.theory.specs.DemandThree.{normal_eq_of_values}
use Rattle.theory.specs.ConversionLaws.{normal_box_normal, value-normal_box-eval}
use Rattle.demand3.specs.Words.{box_value_of, NormalForm, NormalFormOf, Coefficients}
use Rattle.demand3.specs.SameWords.{normal_iff}
use Rattle.demand3.specs.Recovery.{value-eq}
use Rattle.demand3.specs.Coefficients.{value_coefficients, coefficients}

module _ (w : ℕ) (ds : List ℕ) where
  -- normal forms with the same values on the grid are equal
  pub normal_form-eq : (c d : List ℕ) → NormalForm w ds c → NormalForm w ds d
      → ((n : ℕ) → n < cells ds → box_value_of w ds c (map pos (digits ds n)) ≡ box_value_of w ds d (map pos (digits ds n))) → c ≡ d
  normal_form-eq c d a b same =
      normal_eq_of_values w ds c d ((normal_iff w ds c).1 a) ((normal_iff w ds d).1 b)
      (λ n p. sym (value-eq w ds c (digits ds n)) ∙ same n p ∙ value-eq w ds d (digits ds n))

  module _ (p : List Term) where
    -- a polynomial has at most one normal form
    pub normal_form_unique : (c d : List ℕ) → NormalFormOf w ds p c → NormalFormOf w ds p d → c ≡ d
    normal_form_unique c d a b =
        normal_form-eq c d a.normal b.normal (λ n l. a.values (map pos (digits ds n)) ∙ sym (b.values (map pos (digits ds n))))

    -- the normaliser's box is it
    pub normal_box_of : (c : List ℕ) → Coefficients w ds p c → NormalFormOf w ds p (normal_box w ds c)
    normal_box_of c h =
        record {
          normal = (normal_iff w ds (normal_box w ds c)).0 (normal_box_normal w ds c);
          values = λ zs.
              residue-box_at (pow_pos w) ds (normal_box w ds c) zs
              ∙ value-normal_box-eval w ds c (map (residue (2 ^ w)) zs)
              ∙ sym (value_coefficients w ds p c h zs);
        }

    -- so that there is one
    pub normal_form : Terms ds p → (c : List ℕ) × NormalFormOf w ds p c
    normal_form degrees = (normal_box w ds _, normal_box_of _ (coefficients w ds p degrees))

-- at widths to 64 every coefficient is a word
pub normal_word : {w : ℕ} {ds c : List ℕ} → NormalForm w ds c → w ≤ 64 → (i : ℕ) → at c i < 2 ^ 64
normal_word {w} {ds} {c} n h i = go (dec_lt i (cells ds))
  where
    go : Dec (i < cells ds) → at c i < 2 ^ 64
    go (yes l) =
        let k : w - weight (digits ds i) ≤ 64 = omega arith in
        lt_of_lt_of_le (n.below i l) (pow_mono k)
    go (no l) =
        let k : length c ≤ i = omega (arith, n.whole) in
        rw (get_or-eq_default c 0 k) (pow_pos 64)
