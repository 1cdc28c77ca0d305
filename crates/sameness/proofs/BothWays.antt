-- Whole walks are the test both ways: by one walk where the other box lies within the one that is walked, by one comparison where settings are equal, else by
-- two walks.
use Rattle.std.specs.Prelude.{◌≡◌, refl, Bool, true, false, ◌&&◌, List, ℕ, ◌≤◌, min, eqb, length}
use Rattle.std.proofs.Common.{sym, ◌∙◌, ap, ap₂, arith}
use Rattle.meaning.specs.Boxes.{cells}
use Rattle.meaning.specs.Recovery.{every}
use Rattle.meaning.specs.Sameness.{within, matched}
use Rattle.theory.specs.Tables.{length-tabulate}
use Rattle.theory.specs.Scattered.{Places}
use Rattle.theory.specs.SameForms.{form}
use Rattle.box_rows.specs.Rows.{holds}
use Rattle.box_rows.specs.Bounds.{is_equal}
use Rattle.box_rows.specs.Held.{agree_held}
use Rattle.sameness.specs.Places.{is_match, strides, lookups, walked}
use Rattle.sameness.specs.Lent.{Boxed, Walkable}
use Rattle.sameness.proofs.PlaceLaws.{matched_walk}
use Rattle.sameness.proofs.CoveredBoxes.{matched_covered, both_straight}
use Rattle.sameness.proofs.Lookups.{picked-lookups}

-- ---- one walk

module _ {ps ds c qs fs d : List ℕ} (a : Boxed ps ds c) (b : Boxed qs fs d) {limits steps : List ℕ}
    (e : limits ≡ lookups ps qs fs) (f : steps ≡ lookups ps qs (strides 1 fs)) where
  -- what is looked up is lent to a walk from the first place on
  pub walkable : {w : ℕ} → w ≤ 64 → Walkable ds c limits steps w 0
  walkable h =
      record {
        some = omega (arith, a.some, a.each);
        whole = a.whole;
        size = omega (arith, a.whole, a.size);
        limited = ap length e ∙ length-tabulate (length ps) _ ∙ sym a.each;
        stepped = ap length f ∙ length-tabulate (length ps) _ ∙ sym a.each;
        few = h;
        low = omega (arith, a.each, a.few);
      }

-- ---- both ways

module _ (n w : ℕ) {ps ds c qs fs d : List ℕ} (a : Boxed ps ds c) (b : Boxed qs fs d) (places : Places n ps) (places' : Places n qs) where
  -- a walk over the first form tells whether each of its coefficients is matched
  pub walked-matched : walked w ps ds c qs fs d ≡ matched (form n w ps ds c) (form n w qs fs d)
  walked-matched =
      sym (matched_walk n ps qs fs d places places' b.each (omega (arith, b.whole, b.size)) w ds c a.each
      ∙ ap₂ (λ (ls ss : List ℕ). every (cells ds) (is_match w ds c ls ss d 0)) (picked-lookups places qs fs) (picked-lookups places qs (strides 1 fs)))

  -- where the second box lies within the first, those of the second are matched with them
  pub covered : within (lookups qs ps ds) fs ≡ true → matched (form n w ps ds c) (form n w qs fs d) ≡ true
      → matched (form n w qs fs d) (form n w ps ds c) ≡ true
  covered h =
      matched_covered n w ps ds c qs fs d places a.each places' b.each (ap (λ (ls : List ℕ). within ls fs) (picked-lookups places' ps ds) ∙ h)

  -- with equal settings the boxes are compared cell by cell
  pub straight : ps ≡ qs → ds ≡ fs → w ≤ 64 → (r : Bool)
      → r ≡ (eqb (length d) (length c) && holds ds (length c) && every (cells ds) (is_equal (min w 64) ds c d))
      → r ≡ (matched (form n w ps ds c) (form n w qs fs d) && matched (form n w qs fs d) (form n w ps ds c))
  straight e f h r q =
      agree_held ds w a.size h c d r a.whole (b.whole ∙ ap cells (sym f)) q
      ∙ both_straight n w ps ds c d places a.each
      ∙ ap₂ (λ (xs ys : List ℕ). matched (form n w ps ds c) (form n w xs ys d) && matched (form n w xs ys d) (form n w ps ds c)) e f

-- ---- tests

-- the first test alone decides where it implies the second
pub first_decides : (x y : Bool) → (x ≡ true → y ≡ true) → x ≡ (x && y)
first_decides true y h = sym (h refl)
first_decides false y h = refl

pub second_fails : (x : Bool) {y : Bool} → y ≡ false → false ≡ (x && y)
second_fails true e = sym e
second_fails false e = refl
