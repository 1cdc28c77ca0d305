-- Singleton powers: for each variable alone, the others held at 0, the coefficients of its falling factorials without the constant.
use Rattle.std.specs.Prelude.{ℕ, pred, ◌*◌, ◌/◌, ◌%◌, Bool, ◌&&◌, cond, List, [], ◌∷◌, ltb, eqb, length, take, drop}
use Rattle.meaning.specs.Tables.{tabulate, at}
use Rattle.meaning.specs.Factorials.{degree_cap_of}
use Rattle.meaning.specs.Recovery.{every, accepts, answer}
use Rattle.meaning.specs.Settings.{fits_width, first}
use Rattle.meaning.specs.Calls.{left}

-- the degree list of one variable with the given number of cells
abbrev pub one_line : ℕ → List ℕ
one_line size = pred size ∷ []

-- the values of variable i: tables have `size` cells for each variable, variable after variable
abbrev pub line : ℕ → List ℕ → ℕ → List ℕ
line size v i = take size (drop (i * size) v)

-- each of n lines is accepted by recovery
unfoldable pub singleton_accepts : ℕ → ℕ → ℕ → List ℕ → Bool
unfolding every accepts
singleton_accepts w size n v = every n (λ i. accepts w (one_line size) (line size v i))

-- recovery's answer for each line, with 0 in place of the constant
unfoldable pub singleton_answer : ℕ → ℕ → ℕ → List ℕ → List ℕ
unfolding answer
singleton_answer w size n v =
    tabulate (n * size) (λ j. cond (eqb (j % size) 0) 0 (at (answer w (one_line size) (line size v (j / size))) (j % size)))

-- 2 for more than twenty variables, 3 for a bad width, 9 for a wrong length; `degree_cap_of w` cells for each variable
unfoldable pub singleton_settings : ℕ → ℕ → List ℕ → List ℕ → ℕ
unfolding degree_cap_of
singleton_settings n w v out =
    cond (ltb 20 n) 2
    (cond (fits_width w) (cond (eqb (length v) (n * degree_cap_of w) && eqb (length out) (n * degree_cap_of w)) 0 9) 3)

-- then 6 where a difference does not pass
unfoldable pub singleton_number : ℕ → ℕ → List ℕ → List ℕ → ℕ
unfolding singleton_settings singleton_accepts degree_cap_of
singleton_number n w v out = first (singleton_settings n w v out) (cond (singleton_accepts w (degree_cap_of w) n v) 0 6)

-- the answers where it is accepted, zeros after 6, else what was there
unfoldable pub singleton_left : ℕ → ℕ → List ℕ → List ℕ → List ℕ
unfolding singleton_settings singleton_accepts singleton_answer degree_cap_of
singleton_left n w v out =
    left (singleton_settings n w v out)
    (cond (singleton_accepts w (degree_cap_of w) n v) (singleton_answer w (degree_cap_of w) n v) (tabulate (n * degree_cap_of w) (λ j. 0)))
    out
