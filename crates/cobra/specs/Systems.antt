-- The four by four solver on lent tables: sixteen entries, row behind row, four right sides and four answers.
use Rattle.std.specs.Prelude.{ℕ, ◌+◌, Bool, ◌&&◌, cond, List, [], ◌∷◌, eqb, length}
use Rattle.meaning.specs.Tables.{at}
use Rattle.meaning.specs.Elimination.{fixed_number, fixed_answer}
use Rattle.meaning.specs.Settings.{fits_width}

-- four numbers of a table from place n on
abbrev pub four : ℕ → List ℕ → List ℕ
four n t = at t n ∷ at t (n + 1) ∷ at t (n + 2) ∷ at t (n + 3) ∷ []

-- a table of sixteen numbers as four rows
abbrev pub square : List ℕ → List (List ℕ)
square t = four 0 t ∷ four 4 t ∷ four 8 t ∷ four 12 t ∷ []

abbrev pub four_fit : List ℕ → List ℕ → List ℕ → Bool
four_fit matrix right answer = eqb (length matrix) 16 && (eqb (length right) 4 && eqb (length answer) 4)

-- 3 for the width, then 9 for a length, then what the solver says
unfoldable pub four_number : ℕ → List ℕ → List ℕ → List ℕ → ℕ
unfolding fixed_number
four_number w matrix right answer =
    cond (fits_width w) (cond (four_fit matrix right answer) (fixed_number w (square matrix) (four 0 right)) 9) 3

-- the answer as the solver leaves it, zeros after 10, as it was after 3 and 9
unfoldable pub four_answer : ℕ → List ℕ → List ℕ → List ℕ → List ℕ
unfolding fixed_answer
four_answer w matrix right answer =
    cond (fits_width w) (cond (four_fit matrix right answer) (fixed_answer w (square matrix) (four 0 right)) answer) answer
