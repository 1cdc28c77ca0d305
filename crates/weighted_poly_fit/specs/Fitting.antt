-- What the parts of the fit ask and promise: the system is solved into a box, and the tables are left as the call leaves them.
use Rattle.std.specs.Prelude.{◌≡◌, true, cond, List, [], ℕ, ◌*◌, ◌≤◌, ◌<◌, length}
use Rattle.meaning.specs.Tables.{tabulate, at}
use Rattle.meaning.specs.Boxes.{cells}
use Rattle.meaning.specs.Replies.{Reply}
use Rattle.meaning.specs.Settings.{fits_width, first}
use Rattle.meaning.specs.Calls.{reply, left}
use Rattle.meaning.specs.Elimination.{eliminated, substituted, succeeds}
use Rattle.meaning.specs.Fit.{columns, fit_box_of, degree_used_of, Fit, fit_rows, fit_columns_of, fit_lengths, fit_succeeds, fit_answer}

-- ---- the system

-- width and degrees, of the box and of the grid, of a fit; the box's are below `size`, with two variables or more the grid's below `side`, and there are few
-- falling factorials of the coordinates below `side`
pub record Shaped (w side size : ℕ) (ds gs : List ℕ) : Type 0 where
  pub fits : fits_width w ≡ true
  pub high : w ≤ 64
  pub same : length gs ≡ length ds
  pub variables_few : length ds ≤ 20
  pub some : 0 < length ds
  pub products_few : side * size ≤ 362
  pub below : (j : ℕ) → j < length ds → at ds j < size
  pub grid_below : 1 < length gs → (j : ℕ) → j < length gs → at gs j < side

-- how many rows and columns a fit has, as its settings leave them: there are no more cells of the box than rows, and the matrix is small
pub record Counted (rows cols most : ℕ) (ds gs : List ℕ) : Type 0 where
  pub row_count : rows ≡ cells gs
  pub rows_few : rows ≤ 65536
  pub box_small : cells ds ≤ rows
  pub column_count : cols ≡ length (columns ds most)
  pub matrix_small : rows * cols ≤ 65536

-- a matrix and a right side that the solver takes, with a value in x for each column
pub record Solvable (w : ℕ) (mat rhs x : List ℕ) : Type 0 where
  pub fits : fits_width w ≡ true
  pub high : w ≤ 64
  pub some : 0 < length x
  pub few : length x ≤ 256
  pub whole : length mat ≡ length rhs * length x
  pub small : length mat ≤ 65536

-- the reply r and the box `out` of the solved system A, whose unknowns are the coefficients of the exponent lists fs, `cols` of them: with what the elimination
-- makes of it, the substituted values and the degree used, or 10 and zeros
pub record Answered (w rows cols : ℕ) (ds : List ℕ) (fs : List (List ℕ)) (A : ℕ → ℕ → ℕ) (out : List ℕ) (r : Reply) : Type 0 where
  pub says : r
      ≡ reply (cond (succeeds w rows cols (eliminated w rows cols A)) 0 10)
      (degree_used_of ds (fit_box_of w ds fs (substituted w cols (eliminated w rows cols A))))
  pub leaves : out
      ≡ cond (succeeds w rows cols (eliminated w rows cols A)) (fit_box_of w ds fs (substituted w cols (eliminated w rows cols A)))
      (tabulate (cells ds) (λ n. 0))

-- ---- the call

-- a fit with a degree for each variable of the box, ds, and of the grid, gs; its settings are taken to pass, so that variables and support do not matter
abbrev pub fit_with_of : ℕ → List ℕ → List ℕ → ℕ → List ℕ → List ℕ → List ℕ → List ℕ → List ℕ → Fit
fit_with_of w ds gs most weights targets matrix right out =
    record {
      variables = 0;
      width = w;
      support = [];
      most = most;
      degrees = ds;
      grid = gs;
      weights = weights;
      targets = targets;
      matrix = matrix;
      right = right;
      out = out;
    }

-- every lent table of a fit with `cols` columns, which is small enough, has its exact length
pub record Exact (f : Fit) (cols : ℕ) : Type 0 where
  pub weights_long : length f.weights ≡ fit_rows f
  pub targets_long : length f.targets ≡ fit_rows f
  pub matrix_long : length f.matrix ≡ fit_rows f * cols
  pub right_long : length f.right ≡ fit_rows f
  pub out_long : length f.out ≡ cells f.degrees
  pub counted : cols ≡ length (fit_columns_of f)
  pub columns_few : cols ≤ 256
  pub matrix_small : length f.matrix ≤ 65536
  pub box_small : cells f.degrees ≤ 65536

-- the cause after the settings: 9, or 0
abbrev pub lengths_cause : Fit → ℕ
lengths_cause f = cond (fit_lengths f) 0 9

-- the reply r and the tables at the end, where `cause` is the number of the first cause before anything is eliminated, or 0
pub record Fitted (f : Fit) (cause : ℕ) (matrix right out : List ℕ) (r : Reply) : Type 0 where
  pub says : r ≡ reply (first cause (cond (fit_succeeds f) 0 10)) (degree_used_of f.degrees (fit_answer f))
  pub leaves_out : out ≡ left cause (cond (fit_succeeds f) (fit_answer f) (tabulate (cells f.degrees) (λ n. 0))) f.out
  pub leaves_matrix : matrix ≡ left cause (tabulate (length f.matrix) (λ n. 0)) f.matrix
  pub leaves_right : right ≡ left cause (tabulate (length f.right) (λ n. 0)) f.right
