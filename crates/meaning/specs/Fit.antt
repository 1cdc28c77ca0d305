-- The weighted fit: coefficients of falling factorials whose value at each grid point, times the weight there, is the target there, modulo 2^w.
-- The unknowns are the coefficients of the exponent lists of a bounded total degree, the equations are the grid points, and the system is solved by
-- elimination.
use Rattle.std.specs.Prelude.{ℕ, zero, suc, ◌+◌, ◌*◌, ◌%◌, ◌^◌, min, Bool, false, ◌&&◌, ◌||◌, cond, List, [], ◌∷◌, leb, ltb, eqb, length, get_or}
use Rattle.meaning.specs.Tables.{tabulate, at}
use Rattle.meaning.specs.Factorials.{falling}
use Rattle.meaning.specs.Boxes.{cells, digits}
use Rattle.meaning.specs.Values.{product, bound}
use Rattle.meaning.specs.Leaves.{largest}
use Rattle.meaning.specs.Replies.{Reply}
use Rattle.meaning.specs.Settings.{fits_width, table_limit, cube, settings_number, limited_number, first}
use Rattle.meaning.specs.Calls.{reply, left, same_list}
use Rattle.meaning.specs.Elimination.{State, eliminated, substituted, succeeds}

-- ---- the columns

-- the total degree of an exponent list
unfoldable pub total : List ℕ → ℕ
total [] = 0
total (e ∷ es) = e + total es

-- lexicographic order: at the first variable where the two differ, the exponent is lower
unfoldable pub lex_before : List ℕ → List ℕ → Bool
lex_before [] fs = false
lex_before (e ∷ es) [] = false
lex_before (e ∷ es) (f ∷ fs) = ltb e f || eqb e f && lex_before es fs

-- the order of the columns: by total degree, ties by lexicographic order
unfoldable pub before : List ℕ → List ℕ → Bool
unfolding total lex_before
before es fs = ltb (total es) (total fs) || eqb (total es) (total fs) && lex_before es fs

-- an exponent list put in its place
unfoldable pub insert : List ℕ → List (List ℕ) → List (List ℕ)
unfolding before
insert es [] = es ∷ []
insert es (f ∷ fs) = cond (before es f) (es ∷ f ∷ fs) (f ∷ insert es fs)

-- of the cells 0, .., n - 1 of the box of ds, the exponent lists whose sum is `most` or less, in the order of the columns
unfoldable pub columns_to : List ℕ → ℕ → ℕ → List (List ℕ)
unfolding digits total insert
columns_to ds most zero = []
columns_to ds most (suc n) =
    let fs = columns_to ds most n in
    cond (leb (total (digits ds n)) most) (insert (digits ds n) fs) fs

-- the columns: all exponent lists with no exponent above its degree in ds and a sum of `most` or less
unfoldable pub columns : List ℕ → ℕ → List (List ℕ)
unfolding columns_to cells
columns ds most = columns_to ds most (cells ds)

-- ---- the system and its answer

-- the system: the row of grid cell i has, in the column of an exponent list, the weight times the falling factorials of the point's coordinates to
-- those exponents; behind the columns it has the target; all modulo 2^w
unfoldable pub fit_system : ℕ → List ℕ → List (List ℕ) → List ℕ → List ℕ → ℕ → ℕ → ℕ
unfolding product falling digits
fit_system w gs fs weights targets i c =
    cond (ltb c (length fs)) (at weights i * product falling (length gs) (digits gs i) (get_or fs c [])) (at targets i) % 2 ^ w

-- the value of the column that has the exponent list es, and 0 where none has
unfoldable pub value_of : List (List ℕ) → (ℕ → ℕ) → List ℕ → ℕ
unfolding same_list
value_of [] x es = 0
value_of (f ∷ fs) x es = cond (same_list f es) (x 0) (value_of fs (λ i. x (suc i)) es)

-- the box of the answer: each coefficient modulo its bound 2^(w - q), which leaves 0 where q is w or more
unfoldable pub fit_box_of : ℕ → List ℕ → List (List ℕ) → (ℕ → ℕ) → List ℕ
unfolding value_of bound cells digits
fit_box_of w ds fs x = tabulate (cells ds) (λ n. value_of fs x (digits ds n) % bound w (digits ds n))

-- the largest total degree among the coefficients of a box that are not 0, and 0 if there is none
unfoldable pub degree_used_of : List ℕ → List ℕ → ℕ
unfolding largest total cells digits
degree_used_of ds c = largest (cells ds) (λ n. cond (eqb (at c n) 0) 0 (total (digits ds n)))

-- ---- the call

-- settings and lent tables of a fit. The degree lists have a degree for each support variable: `degrees` for the box of the answer, `grid` for the
-- grid.
pub record Fit : Type 0 where
  pub variables : ℕ
  pub width : ℕ
  pub support : List ℕ
  pub most : ℕ
  pub degrees : List ℕ
  pub grid : List ℕ
  pub weights : List ℕ
  pub targets : List ℕ
  pub matrix : List ℕ
  pub right : List ℕ
  pub out : List ℕ

-- a fit with one max_degree and one grid_degree for all variables: an exponent reaches the smaller of the two
abbrev pub fit_of : ℕ → ℕ → List ℕ → ℕ → ℕ → List ℕ → List ℕ → List ℕ → List ℕ → List ℕ → Fit
fit_of variables w support max-degree grid-degree weights targets matrix right out =
    record {
      variables = variables;
      width = w;
      support = support;
      most = max-degree;
      degrees = cube support (min max-degree grid-degree);
      grid = cube support grid-degree;
      weights = weights;
      targets = targets;
      matrix = matrix;
      right = right;
      out = out;
    }

-- a row for each grid cell, and the columns
abbrev pub fit_rows : Fit → ℕ
fit_rows f = cells f.grid

abbrev pub fit_columns_of : Fit → List (List ℕ)
fit_columns_of f = columns f.degrees f.most

-- the number of the first cause that the settings alone show, in the order 1, 2, 3, 5, 7, 8, or 0. 8 is for a grid, and for a matrix, of more than
-- 65,536 entries: as there is always a column, and no degree of the answer's box is above the grid's, a box that is too large is among them.
abbrev pub fit_settings_number : Fit → ℕ
fit_settings_number f =
    first (settings_number false f.variables (fits_width f.width) f.support f.grid)
    (cond (ltb table_limit (fit_rows f * length (fit_columns_of f))) 8 0)

-- every lent table has its exact length
abbrev pub fit_lengths : Fit → Bool
fit_lengths f =
    eqb (length f.weights) (fit_rows f)
    && eqb (length f.targets) (fit_rows f)
    && eqb (length f.matrix) (fit_rows f * length (fit_columns_of f))
    && eqb (length f.right) (fit_rows f)
    && eqb (length f.out) (cells f.degrees)

-- the number of the first cause before anything is eliminated: the settings, then 9, or 0
unfoldable pub fit_cause : Fit → ℕ
unfolding limited_number columns cells
fit_cause f = first (fit_settings_number f) (cond (fit_lengths f) 0 9)

-- what the elimination makes of the system
unfoldable pub fit_state : Fit → State
unfolding eliminated fit_system columns cells
fit_state f =
    eliminated f.width (fit_rows f) (length (fit_columns_of f))
    (fit_system f.width f.grid (fit_columns_of f) f.weights f.targets)

unfoldable pub fit_succeeds : Fit → Bool
unfolding succeeds fit_state columns cells
fit_succeeds f = succeeds f.width (fit_rows f) (length (fit_columns_of f)) (fit_state f)

-- the coefficients
unfoldable pub fit_answer : Fit → List ℕ
unfolding fit_box_of substituted fit_state columns
fit_answer f = fit_box_of f.width f.degrees (fit_columns_of f) (substituted f.width (length (fit_columns_of f)) (fit_state f))

-- the number of the call: the causes above, then 10 where the elimination finds no answer
unfoldable pub fit_number : Fit → ℕ
unfolding fit_cause fit_succeeds
fit_number f = first (fit_cause f) (cond (fit_succeeds f) 0 10)

-- the reply, with degree_used
unfoldable pub fit_reply : Fit → Reply
unfolding fit_number degree_used_of fit_answer
fit_reply f = reply (fit_number f) (degree_used_of f.degrees (fit_answer f))

-- the output at the end: the coefficients, zeros after 10, as it was after the other refusals
unfoldable pub fit_out : Fit → List ℕ
unfolding fit_cause fit_succeeds fit_answer cells
fit_out f = left (fit_cause f) (cond (fit_succeeds f) (fit_answer f) (tabulate (cells f.degrees) (λ n. 0))) f.out

-- scratch at the end: zeros after success and after 10, as it was after the other refusals
unfoldable pub fit_matrix : Fit → List ℕ
unfolding fit_cause
fit_matrix f = left (fit_cause f) (tabulate (length f.matrix) (λ n. 0)) f.matrix

unfoldable pub fit_right : Fit → List ℕ
unfolding fit_cause
fit_right f = left (fit_cause f) (tabulate (length f.right) (λ n. 0)) f.right
