-- Examples, by computation: those that the page docs/DEMAND-3.md walks through, four that show why the words of demand 3 say what they say and not a little
-- more or less, and moved forms.
use Rattle.std.specs.Prelude.{◌≡◌, refl, List, [], ◌∷◌, map, ℕ, ◌^◌, pos, negsuc}
use Rattle.meaning.specs.Tables.{tabulate}
use Rattle.meaning.specs.Boxes.{cells, cell, digits}
use Rattle.meaning.specs.Factorials.{twos, factorial, falling, odd_part, degree_cap_of}
use Rattle.meaning.specs.Inverses.{lifted}
use Rattle.meaning.specs.Stirling.{stirling2}
use Rattle.meaning.specs.Sums.{sum}
use Rattle.meaning.specs.Values.{value, product}
use Rattle.meaning.specs.Integers.{residue, powerℤ}
use Rattle.meaning.specs.Polynomials.{Term, terms_at, productℤ}
use Rattle.meaning.specs.Conversions.{normal_box}
use Rattle.meaning.specs.Settings.{fits_width}
use Rattle.meaning.specs.Calls.{recovery_number, recovery_left, sum_left, move_number}
use Rattle.meaning.specs.Datum.{moved}
use Rattle.demand3.specs.Words.{polynomial_value}

-- one variable at width w: what recovery returns and leaves, with three or five numbers lent
abbrev number : ℕ → ℕ → List ℕ → ℕ
number w d v = recovery_number 1 w (0 ∷ []) (d ∷ []) v (tabulate (cells (d ∷ [])) (λ n. 7))

abbrev output : ℕ → ℕ → List ℕ → List ℕ
output w d v = recovery_left 1 w (0 ∷ []) (d ∷ []) v (tabulate (cells (d ∷ [])) (λ n. 7))

-- the values 1 2 5 at w 8 and d 2 have the coefficients 1 1 1
pub one_two_five : (number 8 2 (1 ∷ 2 ∷ 5 ∷ []) ≡ 0) × (output 8 2 (1 ∷ 2 ∷ 5 ∷ []) ≡ 1 ∷ 1 ∷ 1 ∷ [])
unfolding fits_width recovery_number recovery_left cells cell digits tabulate twos factorial odd_part lifted
one_two_five = (refl, refl)

-- x⁴ at w 2 and d 4: from its coefficients and from its grid, 1 at the degrees 1 and 2
pub fourth_power : (normal_box 2 (4 ∷ []) (0 ∷ 0 ∷ 0 ∷ 0 ∷ 1 ∷ []) ≡ 0 ∷ 1 ∷ 1 ∷ 0 ∷ 0 ∷ [])
    × (output 2 4 (0 ∷ 1 ∷ 0 ∷ 1 ∷ 0 ∷ []) ≡ 0 ∷ 1 ∷ 1 ∷ 0 ∷ 0 ∷ [])
unfolding fits_width normal_box recovery_left cells cell digits tabulate twos factorial odd_part lifted sum stirling2
fourth_power = (refl, refl)

-- every grid point counts: the polynomial 0 has the first two of the values 0 0 1, and they are refused
pub last_point : number 8 2 (0 ∷ 0 ∷ 1 ∷ []) ≡ 6
unfolding fits_width recovery_number cells cell digits tabulate twos factorial
last_point = refl

-- a degree above d would not do: x³ - 3x² + 2x has the values 0 0 0 on the grid, as 0 has, and 6 at 3
unfoldable pub cubic : List Term
cubic =
    record { coefficient = pos 1; exponents = 3 ∷ [] }
    ∷ record { coefficient = negsuc 2; exponents = 2 ∷ [] }
    ∷ record { coefficient = pos 2; exponents = 1 ∷ [] }
    ∷ []

pub higher_degree : (map (λ (x : ℕ). polynomial_value 8 (2 ∷ []) cubic (pos x ∷ [])) (0 ∷ 1 ∷ 2 ∷ 3 ∷ []) ≡ 0 ∷ 0 ∷ 0 ∷ 6 ∷ [])
    × (output 8 2 (0 ∷ 0 ∷ 0 ∷ []) ≡ 0 ∷ 0 ∷ 0 ∷ [])
unfolding fits_width recovery_left cells cell digits tabulate twos factorial odd_part lifted terms_at productℤ powerℤ residue cubic
higher_degree = (refl, refl)

-- the bound 2^w would leave two forms: 128 times x (x - 1) is below 2^8 and has the values 0 0 0 too
pub larger_bound : map (λ (x : ℕ). value (2 ^ 8) (2 ∷ []) (0 ∷ 0 ∷ 128 ∷ []) (x ∷ [])) (0 ∷ 1 ∷ 2 ∷ []) ≡ 0 ∷ 0 ∷ 0 ∷ []
unfolding value cells digits product falling sum
larger_bound = refl

-- a sum kept to w bits would not be a normal form: 0 0 254 and 0 0 2 have the coefficients 0 0 127 and 0 0 1, and the sum of the grids is 0 0 0
pub kept_bits : (output 8 2 (0 ∷ 0 ∷ 254 ∷ []) ≡ 0 ∷ 0 ∷ 127 ∷ []) × (output 8 2 (0 ∷ 0 ∷ 2 ∷ []) ≡ 0 ∷ 0 ∷ 1 ∷ [])
    × (sum_left 1 8 (0 ∷ []) (2 ∷ []) (0 ∷ 0 ∷ 127 ∷ []) (0 ∷ 0 ∷ 1 ∷ []) (7 ∷ 7 ∷ 7 ∷ []) ≡ 0 ∷ 0 ∷ 0 ∷ [])
unfolding fits_width recovery_left sum_left cells cell digits tabulate twos factorial odd_part lifted
kept_bits = (refl, refl, refl)

-- the level formula 200 - 8x + 5x²
unfoldable pub level : List Term
level =
    record { coefficient = pos 200; exponents = 0 ∷ [] }
    ∷ record { coefficient = negsuc 7; exponents = 1 ∷ [] }
    ∷ record { coefficient = pos 5; exponents = 2 ∷ [] }
    ∷ []

-- two readings are accepted, and the answer 200 - 3x has 194 at 2 where the formula has 204
pub too_small : (number 8 1 (200 ∷ 197 ∷ []) ≡ 0) × (output 8 1 (200 ∷ 197 ∷ []) ≡ 200 ∷ 253 ∷ [])
    × (map (λ (x : ℕ). polynomial_value 8 (1 ∷ []) level (pos x ∷ [])) (0 ∷ 1 ∷ 2 ∷ []) ≡ 200 ∷ 197 ∷ 204 ∷ [])
    × (value (2 ^ 8) (1 ∷ []) (200 ∷ 253 ∷ []) (2 ∷ []) ≡ 194)
unfolding fits_width recovery_number recovery_left cells cell digits tabulate twos factorial odd_part lifted terms_at productℤ powerℤ residue level value product falling sum
too_small = (refl, refl, refl, refl)

-- ten readings decide at w 8, and show the formula: 200 - 3x + 5x (x - 1)
pub deciding : (degree_cap_of 8 ≡ 10)
    × (output 8 9 (200 ∷ 197 ∷ 204 ∷ 221 ∷ 248 ∷ 29 ∷ 76 ∷ 133 ∷ 200 ∷ 21 ∷ []) ≡ 200 ∷ 253 ∷ 5 ∷ 0 ∷ 0 ∷ 0 ∷ 0 ∷ 0 ∷ 0 ∷ 0 ∷ [])
unfolding fits_width recovery_left cells cell digits tabulate twos factorial odd_part lifted degree_cap_of
deciding = (refl, refl)

-- the datum of x (x - 1) at w 8, moved by 3, leaves (x + 3) (x + 2), and by 253, which is -3 modulo 256, (x - 3) (x - 4); x y moved by 2 and 5 leaves
-- (x + 2) (y + 5); at w 2 a coefficient of 3 at degree 2, moved by nothing, leaves 1; two offsets for one variable are 9
pub moved_cases : (moved 8 (2 ∷ []) (0 ∷ 0 ∷ 1 ∷ []) (3 ∷ []) ≡ 6 ∷ 6 ∷ 1 ∷ []) × (moved 8 (2 ∷ []) (0 ∷ 0 ∷ 1 ∷ []) (253 ∷ []) ≡ 12 ∷ 250 ∷ 1 ∷ [])
    × (moved 8 (1 ∷ 1 ∷ []) (0 ∷ 0 ∷ 0 ∷ 1 ∷ []) (2 ∷ 5 ∷ []) ≡ 10 ∷ 5 ∷ 2 ∷ 1 ∷ []) × (moved 2 (2 ∷ []) (0 ∷ 0 ∷ 3 ∷ []) (0 ∷ []) ≡ 0 ∷ 0 ∷ 1 ∷ [])
    × (move_number 1 8 (0 ∷ []) (1 ∷ []) (0 ∷ 1 ∷ []) (3 ∷ 4 ∷ []) (7 ∷ 7 ∷ []) ≡ 9)
unfolding fits_width moved move_number cells cell digits tabulate twos factorial odd_part lifted value product sum falling
moved_cases = (refl, refl, refl, refl, refl)
