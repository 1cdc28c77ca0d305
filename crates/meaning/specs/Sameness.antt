-- Forms: what it means that two are the same, and a test for it.
-- A point has a whole number for each of the `total` variables, and a form reads the coordinates of its support. Two forms are the same when they have
-- equal totals, equal widths, and equal values modulo 2^w at every point. The test looks at the exponent lists that one of the two forms has: the
-- exponents of a cell are set out over all variables, the other form's coefficient of that list is looked up, and the two must be equal modulo the
-- bound of the cell.
use Rattle.std.specs.Prelude.{◌≡◌, Bool, true, false, ◌&&◌, cond, ℕ, ◌%◌, ◌^◌, List, [], ◌∷◌, map, leb, eqb, ℤ, pos, length, get_or, set, replicate}
use Rattle.meaning.specs.Tables.{at}
use Rattle.meaning.specs.Boxes.{cells, digits, cell}
use Rattle.meaning.specs.Values.{bound}
use Rattle.meaning.specs.Integers.{residue}
use Rattle.meaning.specs.Polynomials.{box_at}
use Rattle.meaning.specs.Recovery.{every}

-- a form: settings and coefficients
pub record Form : Type 0 where
  pub total : ℕ
  pub width : ℕ
  pub support : List ℕ
  pub degrees : List ℕ
  pub coefficients : List ℕ

-- ---- values

-- the coordinates of the support variables
abbrev pub coordinates : List ℕ → List ℤ → List ℤ
coordinates support zs = map (λ i. get_or zs i (pos 0)) support

-- the value modulo 2^w of a form at a point, which has a coordinate for each of the `total` variables
abbrev pub form_value : Form → List ℤ → ℕ
form_value f zs = residue (2 ^ f.width) (box_at f.degrees f.coefficients (coordinates f.support zs))

-- the forms have equal totals, equal widths, and equal values at every point
pub record Same (f g : Form) : Type 0 where
  pub totals : f.total ≡ g.total
  pub widths : f.width ≡ g.width
  pub values : (zs : List ℤ) → length zs ≡ f.total → form_value f zs ≡ form_value g zs

-- ---- exponents over all variables

-- a number for each of n variables: those of the list at the places, 0 elsewhere
unfoldable pub scattered : ℕ → List ℕ → List ℕ → List ℕ
scattered n [] es = replicate n 0
scattered n (p ∷ ps) [] = replicate n 0
scattered n (p ∷ ps) (e ∷ es) = set (scattered n ps es) p e

-- the entries at the places
abbrev pub picked : List ℕ → List ℕ → List ℕ
picked ps xs = map (λ i. at xs i) ps

-- an exponent for each degree, none above it
unfoldable pub within : List ℕ → List ℕ → Bool
within [] [] = true
within [] (e ∷ es) = false
within (d ∷ ds) [] = false
within (d ∷ ds) (e ∷ es) = leb e d && within ds es

-- ---- the test

-- the coefficient, in a box c over the support, of an exponent list over all variables: that of its cell where no exponent is above its degree, and a
-- variable outside the support has degree 0; else 0
unfoldable pub coefficient_at : ℕ → List ℕ → List ℕ → List ℕ → List ℕ → ℕ
unfolding within scattered
coefficient_at total support ds c es = cond (within (scattered total support ds) es) (at c (cell ds (picked support es))) 0

-- each coefficient of the first form is, modulo the bound of its cell, the second form's coefficient of the same exponents
unfoldable pub matched : Form → Form → Bool
unfolding every coefficient_at
matched f g =
    every (cells f.degrees) (λ n.
    let es = digits f.degrees n in
    let h = bound f.width es in
    eqb (at f.coefficients n % h)
    (coefficient_at g.total g.support g.degrees g.coefficients (scattered f.total f.support es) % h))

-- equal totals, equal widths, and each coefficient of either form is matched in the other
unfoldable pub same_forms : Form → Form → Bool
unfolding matched
same_forms f g = eqb f.total g.total && eqb f.width g.width && matched f g && matched g f
