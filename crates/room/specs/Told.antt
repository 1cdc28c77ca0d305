-- The number and the counts that an answer says.
use Rattle.std.specs.Prelude.{ℕ, Result, Ok, Err}
use Rattle.meaning.specs.Counts.{RecoveryRoom}
use Rattle.answers.specs.declared.Refusal.{Refusal}
use Rattle.answers.specs.Said.{code}
use Rattle.room.specs.declared.RecoveryRoom as answer

-- a returned number and stored counts
abbrev pub room_told : ℕ → ℕ → ℕ → RecoveryRoom
room_told n c s = record { number = n; cell_count = c; subtraction_count = s }

abbrev pub room_said : Result answer.RecoveryRoom Refusal → RecoveryRoom
room_said (Ok room) = room_told 0 room.cells room.subtractions
room_said (Err r) = room_told (code r) 0 0
