-- The number of the answer from its causes, in their order, and the settings in the types of the calls.
use Rattle.std.specs.Prelude.{ℕ, min, Bool, cond, Ok, Err, ⊤, Result}
use Rattle.meaning.specs.Settings.{first}
use Rattle.bench_file.specs.declared.reader.IllFormed.{IllFormed}

-- what the input was, the number of the settings, whether the values are as many as the box has cells, and what recovery says
unfoldable pub verdict : Result ⊤ IllFormed → ℕ → Bool → ℕ → ℕ
verdict (Err IllFormed.Head) settings exact recovered = 12
verdict (Err IllFormed.Values) settings exact recovered = first settings 12
verdict (Ok tt) settings exact recovered = first settings (cond exact recovered 9)

-- a number as the calls take it, the largest of 32 bits where it is larger
abbrev pub narrowed : ℕ → ℕ
narrowed n = min n 4294967295

-- and of 8 bits
abbrev pub lowered : ℕ → ℕ
lowered n = min n 255
