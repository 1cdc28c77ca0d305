-- Linear systems modulo 2^w by elimination. A system of `rows` equations in `cols` unknowns is a function of row and column: the columns below
-- `cols` are the unknowns' coefficients, and the column `cols` is the right side.
use Rattle.std.specs.Prelude.{ℕ, zero, suc, ◌+◌, ◌*◌, ◌-◌, ◌/◌, ◌%◌, ◌^◌, Bool, false, ◌&&◌, ◌||◌, cond, List, [], ◌∷◌, ◌++◌, ltb, eqb, length, replicate}
use Rattle.meaning.specs.Tables.{tabulate, at}
use Rattle.meaning.specs.Sums.{sum}
use Rattle.meaning.specs.Factorials.{twos_of}
use Rattle.meaning.specs.Inverses.{inverse}
use Rattle.meaning.specs.Differences.{minus}
use Rattle.meaning.specs.Recovery.{every}
use Rattle.meaning.specs.Settings.{fits_width, table_limit, first}
use Rattle.meaning.specs.Calls.{left}

-- for an entry P with t twos, and E that 2^t divides: the number below 2^(w - t) whose product with P is E modulo 2^w, which is E / 2^t times
-- the inverse of P / 2^t
unfoldable pub quotient : ℕ → ℕ → ℕ → ℕ → ℕ
unfolding inverse
quotient w t P E = (E / 2 ^ t * inverse (P / 2 ^ t) (w - t)) % 2 ^ (w - t)

-- ---- forward

-- what the elimination works on: the entries, the rows that have been pivots, and each column's pivot row
pub record State : Type 0 where
  pub entry : ℕ → ℕ → ℕ
  pub used : ℕ → Bool
  pub pivot : ℕ → ℕ

-- before the first column no row is used
unfoldable pub start : (ℕ → ℕ → ℕ) → State
start A = record { entry = A; used = λ i. false; pivot = λ c. 0 }

-- the height of row i in column c: the twos of its entry, and w where the entry is 0 modulo 2^w or the row is used
unfoldable pub height : ℕ → State → ℕ → ℕ → ℕ
unfolding twos_of
height w s c i = cond (s.used i) w (twos_of w (s.entry i c))

-- a row and its height
pub record Lowest : Type 0 where
  pub row : ℕ
  pub twos : ℕ

-- the row of least height among the first n, the first on a tie: a row takes the place of those before it only where it is lower. Where no height
-- is below w it is `none`, with w.
unfoldable pub lowest : ℕ → ℕ → (ℕ → ℕ) → ℕ → Lowest
lowest none w h zero = record { row = none; twos = w }
lowest none w h (suc n) =
    let b = lowest none w h n in
    cond (ltb (h n) b.twos) (record { row = n; twos = h n }) b

-- the pivot of column c: the unused row whose entry is not 0 and has the least power of two, first on a tie; `rows` where there is none
unfoldable pub chosen : ℕ → ℕ → State → ℕ → Lowest
unfolding height lowest
chosen w rows s c = lowest rows w (height w s c) rows

-- One column c. The pivot row p, with t twos, is used from now on. It is subtracted from each other unused row as often as clears column c
-- there, modulo 2^w. Where there is no pivot, t is w and every multiplier is below 2^0, which is 0: the column is passed over.
unfoldable pub step : ℕ → ℕ → State → ℕ → State
unfolding chosen quotient minus
step w rows s c =
    let b = chosen w rows s c in
    let p = b.row in
    record {
      entry =
          λ i j.
          cond (s.used i || eqb i p) (s.entry i j)
          (minus (2 ^ w) (s.entry i j) (quotient w b.twos (s.entry p c) (s.entry i c) * s.entry p j));
      used = λ i. s.used i || eqb i p;
      pivot = λ j. cond (eqb j c) p (s.pivot j);
    }

-- the columns 0, .., c - 1, one after the other
unfoldable pub forward : ℕ → ℕ → State → ℕ → State
unfolding step
forward w rows s zero = s
forward w rows s (suc c) = step w rows (forward w rows s c) c

-- all columns
unfoldable pub eliminated : ℕ → ℕ → ℕ → (ℕ → ℕ → ℕ) → State
unfolding start forward
eliminated w rows cols A = forward w rows (start A) cols

-- ---- backward

-- column c's pivot entry
unfoldable pub pivot_entry : State → ℕ → ℕ
pivot_entry s c = s.entry (s.pivot c) c

-- what is left of the right side in column c's pivot row when the columns after c have the values x
unfoldable pub rest : ℕ → ℕ → State → (ℕ → ℕ) → ℕ → ℕ
unfolding minus sum
rest w cols s x c =
    minus (2 ^ w) (s.entry (s.pivot c) cols)
    (sum (cols - suc c) (λ k. s.entry (s.pivot c) (suc c + k) * x (suc c + k)))

-- the pivot's power of two divides it
unfoldable pub divides_rest : ℕ → ℕ → State → (ℕ → ℕ) → ℕ → Bool
unfolding rest pivot_entry twos_of
divides_rest w cols s x c = eqb (rest w cols s x c % 2 ^ twos_of w (pivot_entry s c)) 0

-- column c's value, below 2^(w - t) for a pivot with t twos
unfoldable pub unknown : ℕ → ℕ → State → (ℕ → ℕ) → ℕ → ℕ
unfolding quotient rest pivot_entry twos_of
unknown w cols s x c = quotient w (twos_of w (pivot_entry s c)) (pivot_entry s c) (rest w cols s x c)

-- the columns c - 1, .., 0, last column first, where x has the values of the columns from c on
unfoldable pub backward : ℕ → ℕ → State → ℕ → (ℕ → ℕ) → ℕ → ℕ
unfolding unknown
backward w cols s zero x j = x j
backward w cols s (suc c) x j =
    let v = unknown w cols s x c in
    backward w cols s c (λ k. cond (eqb k c) v (x k)) j

-- the values of all columns
unfoldable pub substituted : ℕ → ℕ → State → ℕ → ℕ
unfolding backward
substituted w cols s = backward w cols s cols (λ j. 0)

-- every column has a pivot, no unused row keeps a right side other than 0, and back-substitution divides in every column
unfoldable pub succeeds : ℕ → ℕ → ℕ → State → Bool
unfolding every divides_rest substituted
succeeds w rows cols s =
    every cols (λ c. ltb (s.pivot c) rows)
    && every rows (λ i. s.used i || eqb (s.entry i cols) 0)
    && every cols (λ c. divides_rest w cols s (substituted w cols s) c)

-- ---- the bare solver, on a lent matrix, right side and answer

-- the system of a matrix with `cols` columns, whose entry of row i and column c is at i * cols + c, and of a right side, all modulo 2^w
unfoldable pub system : ℕ → ℕ → List ℕ → List ℕ → ℕ → ℕ → ℕ
system w cols mat rhs i c = cond (ltb c cols) (at mat (i * cols + c)) (at rhs i) % 2 ^ w

-- the row count
unfoldable pub solver_rows : ℕ → List ℕ → ℕ
solver_rows cols mat = length mat / cols

-- the number of the first cause before anything is eliminated, in the order 3, 8, 9, or 0: the width; too many entries or columns; no columns,
-- or a length that does not fit
unfoldable pub solver_cause : ℕ → ℕ → List ℕ → List ℕ → List ℕ → ℕ
unfolding solver_rows
solver_cause w cols mat rhs answer =
    cond (fits_width w)
    (cond (ltb table_limit (length mat) || ltb table_limit cols) 8
    (cond
    (ltb 0 cols
    && eqb (solver_rows cols mat * cols) (length mat)
    && eqb (length rhs) (solver_rows cols mat)
    && eqb (length answer) cols)
    0 9))
    3

-- what the elimination makes of the tables
unfoldable pub solver_state : ℕ → ℕ → List ℕ → List ℕ → State
unfolding eliminated system solver_rows
solver_state w cols mat rhs = eliminated w (solver_rows cols mat) cols (system w cols mat rhs)

-- back-substitution has an answer
unfoldable pub solver_succeeds : ℕ → ℕ → List ℕ → List ℕ → Bool
unfolding succeeds solver_state solver_rows
solver_succeeds w cols mat rhs = succeeds w (solver_rows cols mat) cols (solver_state w cols mat rhs)

-- the number of the call: the causes above, then 10 where the elimination finds no answer
unfoldable pub solver_number : ℕ → ℕ → List ℕ → List ℕ → List ℕ → ℕ
unfolding solver_cause solver_succeeds
solver_number w cols mat rhs answer = first (solver_cause w cols mat rhs answer) (cond (solver_succeeds w cols mat rhs) 0 10)

-- the answer table at the end: the values of the columns, zeros after 10, as it was after 3, 8 and 9
unfoldable pub solver_answer : ℕ → ℕ → List ℕ → List ℕ → List ℕ → List ℕ
unfolding solver_cause solver_succeeds solver_state substituted
solver_answer w cols mat rhs answer =
    left (solver_cause w cols mat rhs answer)
    (tabulate cols (λ c. cond (solver_succeeds w cols mat rhs) (substituted w cols (solver_state w cols mat rhs) c) 0)) answer

-- the matrix at the end: as eliminated, after 10 too, as it was after 3, 8 and 9
unfoldable pub solver_matrix : ℕ → ℕ → List ℕ → List ℕ → List ℕ → List ℕ
unfolding solver_cause solver_state
solver_matrix w cols mat rhs answer =
    left (solver_cause w cols mat rhs answer)
    (tabulate (length mat) (λ n. (solver_state w cols mat rhs).entry (n / cols) (n % cols))) mat

-- and the right side
unfoldable pub solver_right : ℕ → ℕ → List ℕ → List ℕ → List ℕ → List ℕ
unfolding solver_cause solver_state
solver_right w cols mat rhs answer =
    left (solver_cause w cols mat rhs answer) (tabulate (length rhs) (λ i. (solver_state w cols mat rhs).entry i cols)) rhs

-- ---- the four by four solver, on rows by value

-- the rows of a matrix, one behind the other
unfoldable pub joined : List (List ℕ) → List ℕ
joined [] = []
joined (r ∷ rs) = r ++ joined rs

-- number and answer are the bare solver's for four columns; beside a refusal the answer is zero
unfoldable pub fixed_number : ℕ → List (List ℕ) → List ℕ → ℕ
unfolding solver_number joined
fixed_number w mat rhs = solver_number w 4 (joined mat) rhs (replicate 4 0)

unfoldable pub fixed_answer : ℕ → List (List ℕ) → List ℕ → List ℕ
unfolding solver_answer joined
fixed_answer w mat rhs = solver_answer w 4 (joined mat) rhs (replicate 4 0)
