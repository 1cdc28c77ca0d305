-- What is done at the cells of a box, said of any way to replace a number of the written table and any test of a cell. Each cell has a bound.
use Rattle.std.specs.Prelude.{◌≡◌, ◌≢◌, ℕ, ◌+◌, ◌<◌, ◌≤◌, ◌⊎◌, Bool, true, List, ◌==◌}
use Rattle.meaning.specs.Tables.{at}
use Rattle.meaning.specs.Recovery.{every}

-- at cell i, with bound m: nothing fails (`found` is 0) exactly if the cell passes, its number is replaced, and no other is
pub record Done (left : ℕ → ℕ → ℕ → ℕ) (passes : ℕ → ℕ → Bool) (m i : ℕ) (t₀ t : List ℕ) (found : ℕ) : Type 0 where
  pub test : (found == 0) ≡ passes m i
  pub here : at t i ≡ left m i (at t₀ i)
  pub others : (j : ℕ) → j ≢ i → at t j ≡ at t₀ j

-- at n cells from `from` on, with bounds m: whether all pass; if they do, their numbers are replaced; in no case is another
pub record Walked (left : ℕ → ℕ → ℕ → ℕ) (passes : ℕ → ℕ → Bool) (m : ℕ → ℕ) (from n : ℕ) (t₀ t : List ℕ) (all : Bool) : Type 0 where
  pub tests : all ≡ every n (λ i. passes (m i) (from + i))
  pub inside : all ≡ true → (i : ℕ) → i < n → at t (from + i) ≡ left (m i) (from + i) (at t₀ (from + i))
  pub outside : (j : ℕ) → (j < from) ⊎ (from + n ≤ j) → at t j ≡ at t₀ j

-- each of n cells from `from` on is at hand
abbrev pub AllAtHand : (ℕ → Type 0) → ℕ → ℕ → Type 0
AllAtHand p from n = (i : ℕ) → i < n → p (from + i)
