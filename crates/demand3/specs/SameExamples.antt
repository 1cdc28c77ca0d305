-- The test of sameness, computed: three variables at width 3.
use Rattle.std.specs.Prelude.{◌≡◌, refl, true, false, ℕ, List, [], ◌∷◌}
use Rattle.meaning.specs.Boxes.{cells, digits, cell}
use Rattle.meaning.specs.Factorials.{factorial, twos, twos_of}
use Rattle.meaning.specs.Values.{bound, weight}
use Rattle.meaning.specs.Recovery.{every}
use Rattle.meaning.specs.Sameness.{Form, scattered, within, coefficient_at, matched, same_forms}
use Rattle.theory.specs.SameForms.{form}

abbrev over : List ℕ → List ℕ → List ℕ → Form
over = form 3 3

-- 1 + 2 x0 + 3 x2 + 5 x0 x2, in both orders
pub orders : same_forms (over (0 ∷ 2 ∷ []) (1 ∷ 1 ∷ []) (1 ∷ 2 ∷ 3 ∷ 5 ∷ [])) (over (2 ∷ 0 ∷ []) (1 ∷ 1 ∷ []) (1 ∷ 3 ∷ 2 ∷ 5 ∷ [])) ≡ true
unfolding same_forms matched every cells digits bound weight factorial twos twos_of coefficient_at scattered within cell
orders = refl

-- a variable counts by its index and not by its place
pub places : same_forms (over (0 ∷ 2 ∷ []) (1 ∷ 1 ∷ []) (1 ∷ 2 ∷ 3 ∷ 5 ∷ [])) (over (2 ∷ 0 ∷ []) (1 ∷ 1 ∷ []) (1 ∷ 2 ∷ 3 ∷ 5 ∷ [])) ≡ false
unfolding same_forms matched every cells digits bound weight factorial twos twos_of coefficient_at scattered within cell
places = refl

-- 1 + 2 x0 at degree 1, and at degree 3 with another variable: 4 x0^(2) and 8 count as 0
pub degrees : same_forms (over (0 ∷ []) (1 ∷ []) (1 ∷ 2 ∷ [])) (over (1 ∷ 0 ∷ []) (0 ∷ 3 ∷ []) (9 ∷ 2 ∷ 4 ∷ 8 ∷ [])) ≡ true
unfolding same_forms matched every cells digits bound weight factorial twos twos_of coefficient_at scattered within cell
degrees = refl

-- the second form alone has x0^(3), with a coefficient that counts
pub second : same_forms (over (0 ∷ []) (1 ∷ []) (1 ∷ 2 ∷ [])) (over (0 ∷ []) (3 ∷ []) (1 ∷ 2 ∷ 0 ∷ 1 ∷ [])) ≡ false
unfolding same_forms matched every cells digits bound weight factorial twos twos_of coefficient_at scattered within cell
second = refl
