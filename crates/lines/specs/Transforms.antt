-- A transform of lines, done to a table along every variable. It is given by the line that becomes of a line modulo m, for each m.
use Rattle.std.specs.Prelude.{◌≡◌, ℕ, ◌*◌, ◌%◌, ◌^◌, ◌<◌, List, length}
use Rattle.meaning.specs.Tables.{tabulate, at}
use Rattle.meaning.specs.Boxes.{cells, cell, digits, along}
use Rattle.meaning.specs.Differences.{grid}
use Rattle.theory.specs.AlongEach.{Line, along_each}
use Rattle.theory.specs.Values.{entry}

-- a table of words
abbrev pub Words : List ℕ → Type 0
Words t = (i : ℕ) → at t i < 2 ^ 64

-- a table for the box of ds, along every variable
abbrev pub transformed : (ℕ → Line) → ℕ → List ℕ → List ℕ → List ℕ
transformed line m ds t = tabulate (length t) (λ n. along (line m) ds (λ xs. at t (cell ds xs)) (digits ds n))

-- the same with a line of its own for each variable
abbrev pub transformed_each : (ℕ → Line) → List ℕ → List ℕ → List ℕ
transformed_each lines ds t = tabulate (length t) (λ n. along_each lines ds (λ xs. at t (cell ds xs)) (digits ds n))

-- the transform of the numbers read modulo m
abbrev pub box_of : (ℕ → Line) → ℕ → List ℕ → List ℕ → List ℕ
box_of line m ds t = tabulate (cells ds) (λ n. along (line m) ds (grid m ds t) (digits ds n))

-- modulo a multiple of n and then reduced modulo n
abbrev pub OfMul : (ℕ → Line) → Type 0
OfMul line =
    (n k : ℕ) → 0 < n → 0 < k → (ds t : List ℕ) → tabulate (cells ds) (λ i. along (line (n * k)) ds (entry ds t) (digits ds i) % n) ≡ box_of line n ds t
