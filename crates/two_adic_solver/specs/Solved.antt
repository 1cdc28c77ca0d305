-- Back-substitution in the words of its tables.
use Rattle.std.specs.Prelude.{◌≡◌, ℕ, suc, ◌+◌, ◌-◌, ◌*◌, ◌^◌, ◌<◌, Bool, true, cond, List, length, slice_set}
use Rattle.meaning.specs.Tables.{at, tabulate}
use Rattle.meaning.specs.Sums.{sum}
use Rattle.meaning.specs.Differences.{minus}
use Rattle.meaning.specs.Recovery.{every}
use Rattle.meaning.specs.Elimination.{State, divides_rest, unknown, substituted, succeeds, eliminated, system}
use Rattle.two_adic_solver.specs.ShownStates.{Shows}
use Rattle.two_adic_solver.specs.Shown.{Shown}

-- what is left of the right side of row p when the columns after c have the values x
unfoldable pub rest_of : ℕ → ℕ → List ℕ → List ℕ → List ℕ → ℕ → ℕ → ℕ
unfolding minus sum
rest_of w cols mat rhs x p c = minus (2 ^ w) (at rhs p) (sum (cols - suc c) (λ k. at mat (p * cols + (suc c + k)) * at x (suc c + k)))

-- the answer r says whether column c divides; where it does, its value is put in
pub record Solved (w cols : ℕ) (s : State) (c : ℕ) (x₀ x : List ℕ) (r : Bool) : Type 0 where
  pub divides : r ≡ divides_rest w cols s (at x₀) c
  pub value : r ≡ true → x ≡ slice_set x₀ c (unknown w cols s (at x₀) c)

-- the answer r says whether every column divides; where it does, all values are put in
pub record Substituted (w cols : ℕ) (s : State) (x : List ℕ) (r : Bool) : Type 0 where
  pub divide : r ≡ every cols (λ c. divides_rest w cols s (substituted w cols s) c)
  pub values : r ≡ true → (j : ℕ) → j < cols → at x j ≡ substituted w cols s j

-- the tables show some state in which every column is done
pub record Ended (w rows cols : ℕ) (mat rhs : List ℕ) (used : List Bool) (pivots : List ℕ) : Type 0 where
  pub state : State
  pub shown : Shown w rows cols state cols mat rhs used pivots

-- the answer r says whether the elimination succeeds; where it does, the values of all columns are put in
pub record Concluded (w rows cols : ℕ) (s : State) (x : List ℕ) (r : Bool) : Type 0 where
  pub success : r ≡ succeeds w rows cols s
  pub values : r ≡ true → (j : ℕ) → j < cols → at x j ≡ substituted w cols s j

-- the state in which the elimination of two tables ends
abbrev pub end_of : ℕ → ℕ → List ℕ → List ℕ → State
end_of w cols mat rhs = eliminated w (length rhs) cols (system w cols mat rhs)

-- the number, the matrix, the right side and the answer of a system that fits, whose tables were mat₀ and rhs₀
pub record Finished (w cols : ℕ) (mat₀ rhs₀ mat rhs x : List ℕ) (number : ℕ) : Type 0 where
  pub number_eq : number ≡ cond (succeeds w (length rhs₀) cols (end_of w cols mat₀ rhs₀)) 0 10
  pub answer_eq : x ≡ tabulate cols
      (λ c. cond (succeeds w (length rhs₀) cols (end_of w cols mat₀ rhs₀))
      (substituted w cols (end_of w cols mat₀ rhs₀) c) 0)
  pub shows : Shows (length rhs₀) cols (end_of w cols mat₀ rhs₀) mat rhs
