-- What a room says of the call itself. Settings that the room turns down are turned down by the call with the same number, whatever is lent; the others come to
-- the values exactly where every lent table has as many numbers as the room says.
use Rattle.std.specs.Prelude.{◌≡◌, ◌⊎◌, ◌↔◌, ℕ}
use Rattle.meaning.specs.Counts.{RecoveryRoom, FitRoom}

-- recovery of a table of so many values into one of so many coefficients said the number
pub record RecoveryKeeps (room : RecoveryRoom) (values out number : ℕ) : Type 0 where
  pub turned : (room.number ≡ 0 → ⊥) → number ≡ room.number
  pub exact : room.number ≡ 0 → ((number ≡ 0) ⊎ (number ≡ 6)) ↔ ((values ≡ room.cell_count) × (out ≡ room.cell_count))

-- a fit with tables of these lengths, whose answer is a box of `box` cells, said the number
pub record FitKeeps (room : FitRoom) (box weights targets matrix right out number : ℕ) : Type 0 where
  pub turned : (room.number ≡ 0 → ⊥) → number ≡ room.number
  pub exact :
      room.number ≡ 0 → ((number ≡ 0) ⊎ (number ≡ 10))
      ↔ ((weights ≡ room.row_count) × (targets ≡ room.row_count) × (matrix ≡ room.entry_count) × (right ≡ room.row_count) × (out ≡ box))
