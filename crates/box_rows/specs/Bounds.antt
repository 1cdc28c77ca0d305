-- The tests of coefficients against their bounds: below the bound, or equal modulo the bound.
use Rattle.std.specs.Prelude.{ℕ, ◌%◌, Bool, List, ◌==◌, nat_lt}
use Rattle.meaning.specs.Tables.{at}
use Rattle.meaning.specs.Boxes.{digits}
use Rattle.meaning.specs.Values.{bound}

-- the coefficient of cell n is below its bound at width w
abbrev pub is_below : ℕ → List ℕ → List ℕ → ℕ → Bool
is_below w ds c n = nat_lt (at c n) (bound w (digits ds n))

-- the coefficients of cell n are equal modulo their bound at width w
abbrev pub is_equal : ℕ → List ℕ → List ℕ → List ℕ → ℕ → Bool
is_equal w ds a b n = at a n % bound w (digits ds n) == at b n % bound w (digits ds n)
