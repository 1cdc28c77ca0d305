-- The loop: the numbers from `from` to place i, which is not below it, are 0.
use Rattle.std.proofs.Common.{◌≡◌, ℕ, ◌<◌, ◌≤◌, List}
use Rattle.meaning.specs.Tables.{at}
use Rattle.lines.proofs.differences.nothing_left.Given as goal

-- the numbers from one place to another are 0
abbrev Zeros : List ℕ → ℕ → ℕ → Type 0
Zeros t from to = (i : ℕ) → from ≤ i → i < to → at t i ≡ 0

abbrev pub invariant-loop-i : goal.invariant-loop-i
invariant-loop-i l = (l.from ≤ l.i) × Zeros l.part l.from l.i
