-- The shape of a matrix of four rows with four entries each, and what the answer of such a system says.
use Rattle.std.specs.Prelude.{◌≡◌, ℕ, ◌<◌, List, [], length, slice_index_or, replicate, Result, Ok, Err}
use Rattle.std.proofs.Common.{◌*◌, ap, ◌∙◌}
use Rattle.meaning.specs.Elimination.{joined}
use Rattle.theory.specs.MatrixTables.{length-joined}
use Rattle.answers.specs.declared.Refusal.{Refusal}
use Rattle.answers.specs.Said.{code}

pub record Square (m : List (List ℕ)) : Type 0 where
  pub rows : length m ≡ 4
  pub row : (i : ℕ) → i < 4 → length (slice_index_or m i []) ≡ 4

-- so there are sixteen entries
pub joined_length : {m : List (List ℕ)} → Square m → length (joined m) ≡ 16
joined_length {m} q = length-joined 4 m (λ i l. q.row i (rw q.rows at l)) ∙ ap (◌* 4) q.rows

-- the number that an answer says: 0 where there is one
abbrev pub solved_number : Result (List ℕ) Refusal → ℕ
solved_number (Ok _) = 0
solved_number (Err r) = code r

-- the answer, or zeros beside a refusal
abbrev pub solved_answer : Result (List ℕ) Refusal → List ℕ
solved_answer (Ok x) = x
solved_answer (Err _) = replicate 4 0
