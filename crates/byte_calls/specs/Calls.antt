-- What the calls on tables of bytes answer and leave: the calls' own definitions on the tables that the bytes hold. Count, total variables, width w,
-- support, degree list ds, then the tables. A table may have 4,096 entries, and no more.
use Rattle.std.specs.Prelude.{ℕ, ◌*◌, ◌^◌, Bool, true, false, ◌&&◌, cond, List, [], ltb, eqb, length}
use Rattle.meaning.specs.Tables.{tabulate}
use Rattle.meaning.specs.Boxes.{cells}
use Rattle.meaning.specs.Values.{value}
use Rattle.meaning.specs.Recovery.{accepts, answer}
use Rattle.meaning.specs.Replies.{Reply}
use Rattle.meaning.specs.Settings.{fits_width, byte_limit, limited_number, small_number, first}
use Rattle.meaning.specs.Calls.{reply, left}
use Rattle.meaning.specs.Fit.{Fit, fit_of, columns, fit_rows, fit_columns_of, degree_used_of, fit_succeeds, fit_answer}
use Rattle.byte_calls.specs.Bytes.{decoded, encoded}

-- the bytes are those of n entries
abbrev pub holds : List ℕ → ℕ → Bool
holds bytes n = eqb (length bytes) (n * 8)

-- the number before a table is looked at: 9 where the support does not have its count of entries, then the settings
unfoldable pub box_number : Bool → ℕ → ℕ → ℕ → List ℕ → List ℕ → ℕ
unfolding limited_number cells decoded
box_number strict count total w support ds =
    first (cond (holds support count) 0 9) (small_number strict total (fits_width w) (decoded support) ds)

-- recovery: then 9 where a table does not have an entry for each cell
unfoldable pub bytes_recovery_cause : ℕ → ℕ → ℕ → List ℕ → List ℕ → List ℕ → List ℕ → ℕ
unfolding box_number cells
bytes_recovery_cause count total w support ds values out =
    first (box_number true count total w support ds) (cond (holds values (cells ds) && holds out (cells ds)) 0 9)

-- then 6 where a difference does not pass
unfoldable pub bytes_recovery_number : ℕ → ℕ → ℕ → List ℕ → List ℕ → List ℕ → List ℕ → ℕ
unfolding bytes_recovery_cause accepts decoded
bytes_recovery_number count total w support ds values out =
    first (bytes_recovery_cause count total w support ds values out) (cond (accepts w ds (decoded values)) 0 6)

-- the coefficients where it is accepted, zeros after 6, else what was there
unfoldable pub bytes_recovery_left : ℕ → ℕ → ℕ → List ℕ → List ℕ → List ℕ → List ℕ → List ℕ
unfolding bytes_recovery_cause accepts answer decoded encoded
bytes_recovery_left count total w support ds values out =
    left (bytes_recovery_cause count total w support ds values out)
    (encoded (cond (accepts w ds (decoded values)) (answer w ds (decoded values)) (tabulate (cells ds) (λ n. 0)))) out

-- the value at a point: 9 where there is not a coefficient for each cell and a coordinate for each variable
unfoldable pub bytes_value_reply : ℕ → ℕ → ℕ → List ℕ → List ℕ → List ℕ → List ℕ → Reply
unfolding box_number value decoded
bytes_value_reply count total w support ds coeffs point =
    reply (first (box_number false count total w support ds) (cond (holds coeffs (cells ds) && holds point count) 0 9))
    (value (2 ^ w) ds (decoded coeffs) (decoded point))

-- the fit on the tables that the bytes hold: total variables, width, support, max_degree, grid_degree, weights, targets. Its matrix and its right side are kept
-- inside.
abbrev pub fit_held : ℕ → ℕ → List ℕ → ℕ → ℕ → List ℕ → List ℕ → Fit
fit_held total w support most grid weights targets = fit_of total w (decoded support) most grid (decoded weights) (decoded targets) [] [] []

-- the first cause before anything is eliminated: the support's bytes and the settings on the grid, then 8 for a matrix above 4,096 entries, then 9 where there
-- is not a weight and a target for each grid cell and a coefficient for each cell of the answer's box
unfoldable pub fit_bytes_cause : ℕ → List ℕ → List ℕ → List ℕ → List ℕ → Fit → ℕ
unfolding box_number columns cells
fit_bytes_cause count support weights targets out f =
    first (box_number false count f.variables f.width support f.grid)
    (first (cond (ltb byte_limit (fit_rows f * length (fit_columns_of f))) 8 0)
    (cond (holds weights (fit_rows f) && holds targets (fit_rows f) && holds out (cells f.degrees)) 0 9))

-- then 10 where the elimination finds no answer; with degree_used
unfoldable pub fit_bytes_reply : ℕ → List ℕ → List ℕ → List ℕ → List ℕ → Fit → Reply
unfolding fit_bytes_cause fit_succeeds degree_used_of fit_answer
fit_bytes_reply count support weights targets out f =
    reply (first (fit_bytes_cause count support weights targets out f) (cond (fit_succeeds f) 0 10)) (degree_used_of f.degrees (fit_answer f))

-- the coefficients, zeros after 10, else what was there
unfoldable pub fit_bytes_left : ℕ → List ℕ → List ℕ → List ℕ → List ℕ → Fit → List ℕ
unfolding fit_bytes_cause fit_succeeds fit_answer encoded cells
fit_bytes_left count support weights targets out f =
    left (fit_bytes_cause count support weights targets out f)
    (encoded (cond (fit_succeeds f) (fit_answer f) (tabulate (cells f.degrees) (λ n. 0)))) out
