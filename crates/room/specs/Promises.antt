-- What the call promises of its counts, for k support variables and one degree d.
use Rattle.std.specs.Prelude.{◌≡◌, List, ℕ, suc, ◌*◌, ◌^◌, ◌≤◌, ◌<◌, leb, replicate}
use Rattle.meaning.specs.Tables.{at}
use Rattle.meaning.specs.Sums.{sum}
use Rattle.meaning.specs.Boxes.{cells, digits}
use Rattle.meaning.specs.Calls.{truth}
use Rattle.meaning.specs.Counts.{RecoveryRoom}

-- how many cells of a box have p or more as coordinate of variable i
abbrev pub reached : List ℕ → ℕ → ℕ → ℕ
reached ds i p = sum (cells ds) (λ n. truth (leb p (at (digits ds n) i)))

pub record Costs (k d : ℕ) (room : RecoveryRoom) : Type 0 where
  -- a cell for each grid point
  pub points : room.number ≡ 0 → room.cell_count ≡ suc d ^ k
  -- a subtraction for each variable, each pass from 1 to d, and each cell that the pass reaches
  pub steps : room.number ≡ 0 → room.subtraction_count ≡ sum k (λ i. sum d (λ p. reached (replicate k d) i (suc p)))
  -- twice the subtractions are the variables times the cells times the degree
  pub twice : room.number ≡ 0 → 2 * room.subtraction_count ≡ k * room.cell_count * d
  -- beside a refusal there is no count
  pub none : (room.number ≡ 0 → ⊥) → (room.cell_count ≡ 0) × (room.subtraction_count ≡ 0)
  -- and none is near the end of 64 bits
  pub small : (room.cell_count ≤ 65536) × (room.subtraction_count < 2 ^ 36)
