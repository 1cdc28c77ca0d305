-- What the reader tells of a whole input: `t₀` is the table that was lent to it, `bs` are the bytes of all the pieces, `s` is its state after them.
use Rattle.std.specs.Prelude.{◌≡◌, List, ℕ, suc, min, length, Ok, Err, ⊤, Result}
use Rattle.std.proofs.lemmas.List.Edits.{sets}
use Rattle.bench_file.specs.Layout.{Says, ill_head, ill_values, whole}
use Rattle.bench_file.specs.Steps.{State, head_of}
use Rattle.bench_file.specs.declared.reader.IllFormed.{IllFormed}

pub data ReadAs (t₀ bs : List ℕ) (s : State) : Result ⊤ IllFormed → Type 0 where
  read_ill_head : Says bs ill_head → ReadAs t₀ bs s (Err IllFormed.Head)
  read_ill_values : Says bs (ill_values (head_of s.reader)) → ReadAs t₀ bs s (Err IllFormed.Values)
  -- the values stand in the table from its first place on, as far as it reaches; they are counted, up to one more than it has places
  read_whole : (vs : List ℕ) → Says bs (whole (head_of s.reader) vs)
      → s.reader.count ≡ min (length vs) (suc (length t₀)) → s.values ≡ sets t₀ 0 vs → ReadAs t₀ bs s (Ok tt)
