-- What a lent buffer holds after a text was written to it.
use Rattle.std.specs.Prelude.{◌≡◌, ◌+◌, ℕ, zero, suc, cond, List, [], ◌∷◌, ◌++◌, leb, length, Option, Some, None}
use Rattle.std.proofs.lemmas.List.Edits.{sets}
use Rattle.meaning.specs.Boxes.{digits}
use Rattle.bench_file.specs.Text.{line}
use Rattle.bench_file.specs.declared.answer.Printer.{Printer}

-- the text from the buffer's first place on, where it fits, else what was there
abbrev pub printed : List ℕ → List ℕ → List ℕ
printed text out = cond (leb (length text) (length out)) (sets out 0 text) out

-- and how many bytes that is
abbrev pub printed_size : List ℕ → List ℕ → Option ℕ
printed_size text out = cond (leb (length text) (length out)) (Some (length text)) None

-- the line of a cell's coefficient, nothing where it is 0
abbrev pub term_text : List ℕ → ℕ → ℕ → List ℕ
term_text ds n zero = []
term_text ds n (suc c) = line (digits ds n ++ (suc c ∷ []))

-- 1 for a coefficient that is not 0
abbrev pub one_term_of : ℕ → ℕ
one_term_of zero = 0
one_term_of (suc c) = 1

-- the writing went on by these bytes: they stand in the same buffer from the place on that it had reached, and it stands behind them
pub record Writes (old new : Printer) (bytes : List ℕ) : Type 0 where
  pub same_buffer : new.out.ghost_name ≡ old.out.ghost_name
  pub size : new.size ≡ old.size + length bytes
  pub leaves : new.out.now ≡ sets old.out.now old.size bytes
