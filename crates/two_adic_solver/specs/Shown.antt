-- The elimination in the words of its tables: matrix, right side, used rows and pivot rows that show a state.
use Rattle.std.specs.Prelude.{◌≡◌, ℕ, ◌+◌, ◌-◌, ◌*◌, ◌/◌, ◌^◌, ◌<◌, ◌≤◌, Bool, false, cond, List, length, ◌==◌, nat_lt, slice_index_or}
use Rattle.meaning.specs.Tables.{at}
use Rattle.meaning.specs.Differences.{minus}
use Rattle.meaning.specs.Inverses.{inverse}
use Rattle.meaning.specs.Elimination.{State, quotient, chosen, step}
use Rattle.theory.specs.Elimination.{kept}
use Rattle.theory.specs.Echelon.{Echelon}
use Rattle.two_adic_solver.specs.ShownStates.{Shows}

-- row i, unless it is used, less the multiple of a row that clears column c where that row's entry, of t twos, is e; of the row only a part may be given
unfoldable pub cleared_row : Bool → ℕ → ℕ → ℕ → (ℕ → ℕ) → ℕ → ℕ → State → State
cleared_row used w t e part c i s =
    record {
      entry =
          λ k j.
          cond (k == i)
          (cond used (s.entry i j) (minus (2 ^ w) (s.entry i j) (quotient w t e (s.entry i c) * part j)))
          (s.entry k j);
      used = s.used;
      pivot = s.pivot;
    }

-- v is the inverse of the odd part of the pivot e, which has t twos; `source` has the part's numbers from column d on, `side` its right side, and all
-- others are 0
pub record PivotPart (w cols d e t v : ℕ) (source : List ℕ) (side : ℕ) (part : ℕ → ℕ) : Type 0 where
  pub inverse_eq : v ≡ inverse (e / 2 ^ t) (w - t)
  pub entries : (k : ℕ) → k < length source → at source k ≡ part (d + k)
  pub right : side ≡ part cols
  pub before : (j : ℕ) → j < d → part j ≡ 0
  pub after : (j : ℕ) → d + length source ≤ j → j < cols → part j ≡ 0

-- row i from column `bound i` on after the step of column c, all else before it
unfoldable pub stepped : ℕ → ℕ → State → ℕ → (ℕ → ℕ) → State
stepped w rows s c bound =
    record {
      entry = λ i j. cond (nat_lt j (bound i)) (s.entry i j) ((step w rows s c).entry i j);
      used = s.used;
      pivot = s.pivot;
    }

-- the tables show all rows from column `bound` on after the step of column c; from there down to `end` the pivot row p is 0, and `side` is its right side
-- where right sides are still to be done, which then have a column beside them, else 0
pub record Behind (w rows cols c p end side bound : ℕ) (s : State) (mat rhs : List ℕ) : Type 0 where
  pub above : end ≤ bound
  pub zeros : (j : ℕ) → end ≤ j → j < bound → j < cols → s.entry p j ≡ 0
  pub inside : cols < bound → side ≡ s.entry p cols
  pub outside : bound ≤ cols → side ≡ 0
  pub begun : cols < bound → c < end
  pub shows : Shows rows cols (stepped w rows s c (λ i. bound)) mat rhs

-- column c is next, p is its pivot row, and the rows that stay are marked
pub record Clearing (w rows c p : ℕ) (used : List Bool) (s : State) : Type 0 where
  pub echelon : Echelon w rows s c
  pub chosen_eq : p ≡ (chosen w rows s c).row
  pub marked : (i : ℕ) → i < rows → slice_index_or used i false ≡ kept w rows s c i

-- the tables show the state after c columns
pub record Shown (w rows cols : ℕ) (s : State) (c : ℕ) (mat rhs : List ℕ) (used : List Bool) (pivots : List ℕ) : Type 0 where
  pub shows : Shows rows cols s mat rhs
  pub echelon : Echelon w rows s c
  pub marked : (i : ℕ) → i < rows → slice_index_or used i false ≡ s.used i
  pub rows_eq : (j : ℕ) → j < c → at pivots j ≡ s.pivot j
