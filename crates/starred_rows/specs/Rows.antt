-- The starred rows of document 01, as one list of tests on the definitions of `meaning`, and one theorem: all hold, by computation.
use Rattle.std.specs.Prelude.{ℕ, suc, ◌+◌, ◌*◌, ◌%◌, ◌^◌, Bool, true, false, ◌&&◌, List, [], ◌∷◌, T, eqb, length, replicate}
use Rattle.meaning.specs.Tables.{tabulate, at}
use Rattle.meaning.specs.Sums.{sum}
use Rattle.meaning.specs.Factorials.{factorial, twos_of, twos, odd_part, cap_from, degree_cap_of}
use Rattle.meaning.specs.Inverses.{lifted, inverse}
use Rattle.meaning.specs.Integers.{residue}
use Rattle.meaning.specs.Stirling.{stirling1, stirling2, falling_line, power_line}
use Rattle.meaning.specs.Boxes.{cells, digits, cell, along}
use Rattle.meaning.specs.Values.{weight, odd_factor, bound}
use Rattle.meaning.specs.Differences.{minus, diff, diffs, newton, differences, grid}
use Rattle.meaning.specs.Recovery.{difference, divides, coefficient, every, accepts, answer}
use Rattle.meaning.specs.Conversions.{falling_box, power_box, normal_box}
use Rattle.meaning.specs.Settings.{fits_width, some, repeated, limited_number, call_number}
use Rattle.meaning.specs.Calls.{same_list, in_out_number, recovery_number, recovery_left, convert_left}
use Rattle.meaning.specs.Singletons.{singleton_accepts, singleton_answer, singleton_settings, singleton_number, singleton_left}
use Rattle.meaning.specs.Elimination.{solver_number, solver_answer}
use Rattle.meaning.specs.Fit.{fit_of, fit_reply, fit_out}

-- recovery at width w over the first k variables, all of degree d, says the number and leaves the table
unfoldable pub recovers : ℕ → ℕ → ℕ → List ℕ → ℕ → List ℕ → Bool
unfolding same_list recovery_number recovery_left
recovers w k d v number left =
    let support = tabulate k (λ i. i) in
    let out : List ℕ = replicate (length v) 7 in
    let ds = replicate k d in
    eqb (recovery_number k w support ds v out) number && same_list (recovery_left k w support ds v out) left

-- a conversion at width w of the coefficients c of one variable of degree d, which makes the box `done` of them, says the number and leaves the table
unfoldable converts : ℕ → ℕ → List ℕ → List ℕ → ℕ → List ℕ → Bool
unfolding same_list call_number convert_left
converts w d c done number left =
    let out : List ℕ = replicate (length c) 7 in
    eqb (in_out_number false 1 w (0 ∷ []) (d ∷ []) c out) number && same_list (convert_left 1 w (0 ∷ []) (d ∷ []) c out done) left

-- powers to the normal form, and falling factorials to powers
unfoldable pub normalises : ℕ → ℕ → List ℕ → ℕ → List ℕ → Bool
unfolding converts normal_box
normalises w d c number left = converts w d c (normal_box w (d ∷ []) c) number left

unfoldable pub to_powers_lem : ℕ → ℕ → List ℕ → ℕ → List ℕ → Bool
unfolding converts power_box
to_powers_lem w d c number left = converts w d c (power_box (2 ^ w) (d ∷ []) c) number left

-- singletons at width w of one variable
unfoldable pub recovers-line : ℕ → List ℕ → ℕ → List ℕ → Bool
unfolding same_list singleton_number singleton_left
recovers-line w v number left =
    let out : List ℕ = replicate (length v) 7 in
    eqb (singleton_number 1 w v out) number && same_list (singleton_left 1 w v out) left

-- the fit at width w of one variable, with both degrees d, says the number and the degree used, and leaves the table
unfoldable pub fits : ℕ → ℕ → List ℕ → List ℕ → ℕ → ℕ → List ℕ → Bool
unfolding same_list fit_reply fit_out
fits w d weights targets number degree left =
    let f = fit_of 1 w (0 ∷ []) d d weights targets (replicate (suc d * suc d) 7) (replicate (suc d) 7) (replicate (suc d) 7) in
    eqb (fit_reply f).number number && eqb (fit_reply f).value degree && same_list (fit_out f) left

-- the solver at width w on a matrix of `cols` columns says the number and leaves the answer
unfoldable pub solves : ℕ → ℕ → List ℕ → List ℕ → ℕ → List ℕ → Bool
unfolding same_list solver_number solver_answer
solves w cols mat rhs number left =
    let out : List ℕ = replicate cols 7 in
    eqb (solver_number w cols mat rhs out) number && same_list (solver_answer w cols mat rhs out) left

-- the values x satisfy every row of such a system
unfoldable pub satisfies : ℕ → ℕ → List ℕ → List ℕ → List ℕ → Bool
unfolding every sum
satisfies w cols mat rhs x =
    every (length rhs) (λ i. eqb (sum cols (λ c. at mat (i * cols + c) * at x c) % 2 ^ w) (at rhs i % 2 ^ w))

unfoldable pub rows : List Bool
unfolding recovers normalises to_powers_lem recovers-line fits solves satisfies
rows =
    -- w 8, d 2, values 1 2 5: coefficients 1 1 1; values 0 0 1: 6
    recovers 8 1 2 (1 ∷ 2 ∷ 5 ∷ []) 0 (1 ∷ 1 ∷ 1 ∷ [])
    ∷ recovers 8 1 2 (0 ∷ 0 ∷ 1 ∷ []) 6 (0 ∷ 0 ∷ 0 ∷ [])
    -- w 8, d 3, 0 0 0 6: 0 0 0 1; w 2, d 4, 0 0 0 0 1: 6; all zero: accepted
    ∷ recovers 8 1 3 (0 ∷ 0 ∷ 0 ∷ 6 ∷ []) 0 (0 ∷ 0 ∷ 0 ∷ 1 ∷ [])
    ∷ recovers 2 1 4 (0 ∷ 0 ∷ 0 ∷ 0 ∷ 1 ∷ []) 6 (0 ∷ 0 ∷ 0 ∷ 0 ∷ 0 ∷ [])
    ∷ recovers 2 1 4 (0 ∷ 0 ∷ 0 ∷ 0 ∷ 0 ∷ []) 0 (0 ∷ 0 ∷ 0 ∷ 0 ∷ 0 ∷ [])
    -- w 8, two variables, d 1, 0 0 0 1: 1 on xy
    ∷ recovers 8 2 1 (0 ∷ 0 ∷ 0 ∷ 1 ∷ []) 0 (0 ∷ 0 ∷ 0 ∷ 1 ∷ [])
    -- 4x² at w 3 normalises to 4x; x⁴ at w 2 normalises to 1 at degrees 1 and 2
    ∷ normalises 3 2 (0 ∷ 0 ∷ 4 ∷ []) 0 (0 ∷ 4 ∷ 0 ∷ [])
    ∷ normalises 2 4 (0 ∷ 0 ∷ 0 ∷ 0 ∷ 1 ∷ []) 0 (0 ∷ 1 ∷ 1 ∷ 0 ∷ 0 ∷ [])
    -- x_(3) at w 8 in powers: 2, 253, 1 for x, x², x³
    ∷ to_powers_lem 8 3 (0 ∷ 0 ∷ 0 ∷ 1 ∷ []) 0 (0 ∷ 2 ∷ 253 ∷ 1 ∷ [])
    -- singleton w 2, values 3 0 1 2: degree 1, coefficient 1; 0 0 1 0: 6
    ∷ recovers-line 2 (3 ∷ 0 ∷ 1 ∷ 2 ∷ []) 0 (0 ∷ 1 ∷ 0 ∷ 0 ∷ [])
    ∷ recovers-line 2 (0 ∷ 0 ∷ 1 ∷ 0 ∷ []) 6 (0 ∷ 0 ∷ 0 ∷ 0 ∷ [])
    -- fit w 8, weights 2 2, values 2 6, degrees 1: 1 + 2x, degree_used 1
    ∷ fits 8 1 (2 ∷ 2 ∷ []) (2 ∷ 6 ∷ []) 0 1 (1 ∷ 2 ∷ [])
    -- solver w 3, rows (4, 1 | 2), (0, 4 | 0): 10, though (0, 2) solves it
    ∷ solves 3 2 (4 ∷ 1 ∷ 0 ∷ 4 ∷ []) (2 ∷ 0 ∷ []) 10 (0 ∷ 0 ∷ [])
    ∷ satisfies 3 2 (4 ∷ 1 ∷ 0 ∷ 4 ∷ []) (2 ∷ 0 ∷ []) (0 ∷ 2 ∷ [])
    ∷ []

unfoldable pub all : List Bool → Bool
all [] = true
all (b ∷ bs) = b && all bs

pub all-rows_hold : T (all rows)
unfolding all rows recovers converts normalises to_powers_lem recovers-line fits solves satisfies tabulate sum factorial twos_of twos odd_part cap_from degree_cap_of lifted inverse residue stirling1 stirling2 falling_line power_line cells digits cell along weight odd_factor bound minus diff diffs newton differences grid difference divides coefficient every accepts answer falling_box power_box normal_box fits_width some repeated limited_number call_number same_list convert_left recovery_number recovery_left singleton_accepts singleton_answer singleton_settings singleton_number singleton_left
all-rows_hold = tt
