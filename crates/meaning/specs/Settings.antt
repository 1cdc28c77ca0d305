-- The settings of a call and the order in which they are turned down. A box has a degree for each support variable.
use Rattle.std.specs.Prelude.{ℕ, zero, suc, Bool, false, ◌&&◌, ◌||◌, cond, List, [], ◌∷◌, leb, ltb, eqb, length, replicate}
use Rattle.meaning.specs.Boxes.{cells}
use Rattle.meaning.specs.Replies.{between}

-- the widths that the calls take
unfoldable pub fits_width : ℕ → Bool
fits_width w = between 2 64 w

-- the most entries of a table of numbers, and of a table of bytes or of the bench program
abbrev pub table_limit : ℕ
table_limit = 65536

abbrev pub byte_limit : ℕ
byte_limit = 4096

-- the degree list of a box with the one degree d
abbrev pub cube : List ℕ → ℕ → List ℕ
cube support d = replicate (length support) d

-- some entry passes the test
unfoldable pub some : (ℕ → Bool) → List ℕ → Bool
some p [] = false
some p (x ∷ xs) = p x || some p xs

-- some entry stands twice
unfoldable pub repeated : List ℕ → Bool
unfolding some
repeated [] = false
repeated (x ∷ xs) = some (eqb x) xs || repeated xs

-- the number of the first cause, in the order 1, 2, 3, 4, 5, 7, 8, or 0 where there is none; a box above `limit` cells is 8, `strict` says that no
-- degree may be 0, `fits` that the width does
unfoldable pub limited_number : ℕ → Bool → ℕ → Bool → List ℕ → List ℕ → ℕ
unfolding some repeated
limited_number limit strict total fits support ds =
    cond (eqb (length support) 0) 1
    (cond (ltb 20 total) 2
    (cond fits
    (cond (strict && some (eqb 0) ds) 4
    (cond (some (leb total) support) 5
    (cond (repeated support) 7
    (cond (ltb limit (cells ds)) 8 0))))
    3))

-- with the limit of tables of numbers, and with that of tables of bytes
abbrev pub settings_number : Bool → ℕ → Bool → List ℕ → List ℕ → ℕ
settings_number strict total fits support ds = limited_number table_limit strict total fits support ds

abbrev pub small_number : Bool → ℕ → Bool → List ℕ → List ℕ → ℕ
small_number strict total fits support ds = limited_number byte_limit strict total fits support ds

-- the first number where it is one, else the second
abbrev pub first : ℕ → ℕ → ℕ
first zero k = k
first (suc n) k = suc n

-- then 9 where a lent table does not have its exact length
unfoldable pub call_number : Bool → ℕ → Bool → List ℕ → List ℕ → Bool → ℕ
unfolding limited_number
call_number strict total fits support ds exact = first (settings_number strict total fits support ds) (cond exact 0 9)
