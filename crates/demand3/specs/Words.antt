-- The words of demand 3: w is the width, ds the degree list of the support variables, v a lent table of values. A whole-number polynomial is a
-- list of terms, each with a whole-number coefficient and an exponent for each variable; a point has a whole number for each variable.
use Rattle.std.specs.Prelude.{◌≡◌, cond, ℕ, suc, ◌+◌, ◌-◌, ◌%◌, ◌^◌, ◌≤◌, ◌<◌, List, [], ◌∷◌, map, ℤ, pos, ◌+ℤ◌, length, get_or}
use Rattle.meaning.specs.Tables.{at}
use Rattle.meaning.specs.Boxes.{cells, digits, cell}
use Rattle.meaning.specs.Factorials.{degree_cap_of}
use Rattle.meaning.specs.Values.{weight}
use Rattle.meaning.specs.Integers.{residue}
use Rattle.meaning.specs.Polynomials.{Term, Terms, terms_at, box_at}
use Rattle.meaning.specs.Calls.{same_list}
use Rattle.meaning.specs.Sameness.{Form, scattered, coefficient_at}

-- ---- values

-- the value modulo 2^w of the polynomial p at the point zs
abbrev pub polynomial_value : ℕ → List ℕ → List Term → List ℤ → ℕ
polynomial_value w ds p zs = residue (2 ^ w) (terms_at (length ds) p zs)

-- the value modulo 2^w of the coefficient box c at the point zs
abbrev pub box_value_of : ℕ → List ℕ → List ℕ → List ℤ → ℕ
box_value_of w ds c zs = residue (2 ^ w) (box_at ds c zs)

-- the point zs has modulo 2^w the lent coordinates
abbrev pub PointOf : ℕ → List ℕ → List ℕ → List ℤ → Type 0
PointOf w ds xs zs = (i : ℕ) → i < length ds → residue (2 ^ w) (get_or zs i (pos 0)) ≡ at xs i % 2 ^ w

-- ---- grids

-- the polynomial p, whatever its exponents, has at every grid point the lent value modulo 2^w
abbrev pub OnGrid : ℕ → List ℕ → List ℕ → List Term → Type 0
OnGrid w ds v p = (n : ℕ) → n < cells ds → polynomial_value w ds p (map pos (digits ds n)) ≡ at v n % 2 ^ w

-- the polynomial p agrees with the grid v: no exponent is above its degree, and at every grid point its value is the lent one modulo 2^w
pub record Agreeing (w : ℕ) (ds v : List ℕ) (p : List Term) : Type 0 where
  pub degrees : Terms ds p
  pub everywhere : OnGrid w ds v p

-- the coefficient box c agrees with the grid v
abbrev pub BoxOnGrid : ℕ → List ℕ → List ℕ → List ℕ → Type 0
BoxOnGrid w ds v c = (n : ℕ) → n < cells ds → box_value_of w ds c (map pos (digits ds n)) ≡ at v n % 2 ^ w

-- a grid point at which the coefficient box c has not the lent value
pub record Disagreement (w : ℕ) (ds c v : List ℕ) : Type 0 where
  pub place : ℕ
  pub inside : place < cells ds
  pub differs : box_value_of w ds c (map pos (digits ds place)) ≡ at v place % 2 ^ w → ⊥

-- the grid decides: no degree is below `degree_cap`(w) - 1, so that there are at least `degree_cap`(w) readings a variable
abbrev pub Deciding : ℕ → List ℕ → Type 0
Deciding w ds = (i : ℕ) → i < length ds → degree_cap_of w ≤ suc (at ds i)

-- a polynomial that has the values of the grid v, and a point at which its value is not that of the coefficient box c
pub record Another (w : ℕ) (ds v c : List ℕ) : Type 0 where
  pub polynomial : List Term
  pub on_grid : OnGrid w ds v polynomial
  pub point : List ℤ
  pub differs : box_value_of w ds c point ≡ polynomial_value w ds polynomial point → ⊥

-- the grid u, of the degrees es, contains the grid v: as many variables, no degree lower, and the same values modulo 2^w at the points of v
pub record Contains (w : ℕ) (es u ds v : List ℕ) : Type 0 where
  pub variables : length es ≡ length ds
  pub larger : (i : ℕ) → i < length ds → at ds i ≤ at es i
  pub same : (n : ℕ) → n < cells ds → at u (cell es (digits ds n)) % 2 ^ w ≡ at v n % 2 ^ w

-- the grid t is the sum of the grids u and v, cell by cell modulo 2^w
pub record GridSum (w : ℕ) (ds u v t : List ℕ) : Type 0 where
  pub each : (n : ℕ) → n < cells ds → at t n % 2 ^ w ≡ (at u n + at v n) % 2 ^ w

-- ---- normal forms

-- the coefficient box c is a normal form: a coefficient for each cell, each below 2^(w - q), where q is the twos in the factorials of the cell's
-- exponents; where q is w or more, that is below 1
pub record NormalForm (w : ℕ) (ds c : List ℕ) : Type 0 where
  pub whole : length c ≡ cells ds
  pub below : (n : ℕ) → n < cells ds → at c n < 2 ^ (w - weight (digits ds n))

-- the coefficient box c is a normal form of the polynomial p: it has the value of p at every point
pub record NormalFormOf (w : ℕ) (ds : List ℕ) (p : List Term) (c : List ℕ) : Type 0 where
  pub normal : NormalForm w ds c
  pub values : (zs : List ℤ) → box_value_of w ds c zs ≡ polynomial_value w ds p zs

-- the coefficient box c is a normal form of the sum of the boxes a and b: its value is at every point the sum of theirs
pub record SumOf (w : ℕ) (ds a b c : List ℕ) : Type 0 where
  pub normal : NormalForm w ds c
  pub values : (zs : List ℤ) → box_value_of w ds c zs ≡ (box_value_of w ds a zs + box_value_of w ds b zs) % 2 ^ w

-- ---- coefficients of powers

-- the coefficient of the powers with the exponents es in the polynomial p: its terms with just these exponents, added
unfoldable pub coefficient_of : List Term → List ℕ → ℤ
unfolding same_list
coefficient_of [] es = pos 0
coefficient_of (t ∷ p) es = cond (same_list t.exponents es) t.coefficient (pos 0) +ℤ coefficient_of p es

-- the table c holds the coefficients of the polynomial p, modulo 2^w
pub record Coefficients (w : ℕ) (ds : List ℕ) (p : List Term) (c : List ℕ) : Type 0 where
  pub within : Terms ds p
  pub whole : length c ≡ cells ds
  pub each : (n : ℕ) → n < cells ds → at c n % 2 ^ w ≡ residue (2 ^ w) (coefficient_of p (digits ds n))

-- ---- forms over all variables

-- the polynomial p over all `total` variables agrees with the grid v of the support: no exponent is above its variable's degree, which is 0 outside the
-- support, and at every grid point, where the other variables are 0, its value is the lent one modulo 2^w
pub record AgreeingOver (total w : ℕ) (support ds v : List ℕ) (p : List Term) : Type 0 where
  pub degrees : Terms (scattered total support ds) p
  pub everywhere : (n : ℕ) → n < cells ds → residue (2 ^ w) (terms_at total p (map pos (scattered total support (digits ds n)))) ≡ at v n % 2 ^ w

-- the coefficient that a form has of an exponent list over all variables, 0 where its box has no such cell
abbrev pub coefficient_in : Form → List ℕ → ℕ
coefficient_in f es = coefficient_at f.total f.support f.degrees f.coefficients es

-- the form g has the coefficients of f in a box of its own, with another order of the support or other degrees
pub record Relaid (f g : Form) : Type 0 where
  pub totals : f.total ≡ g.total
  pub widths : f.width ≡ g.width
  pub each : (es : List ℕ) → coefficient_in f es ≡ coefficient_in g es
