-- The loop: for whatever transforms `along` gives, the variables that are left, done to the table as it is, give what was asked, and `stride` is that of
-- the next one. A block along the next variable fits the table and divides it, as `transform_variable` asks.
use Rattle.std.proofs.Common.{◌≡◌, ◌+◌, ◌*◌, ◌^◌, ◌<◌, ℕ, length, drop}
use Rattle.meaning.specs.Tables.{at}
use Rattle.meaning.specs.Boxes.{cells}
use Rattle.lines.specs.FlatTables.{strided}
use Rattle.lines.specs.FlatLoops.{Variables}
use Rattle.lines.proofs.walk.Given as goal

abbrev pub invariant-loop-variable : goal.invariant-loop-variable
invariant-loop-variable g l =
    (0 < l.stride)
    × (length l.table ≡ l.stride * cells (drop l.variable l.degrees))
    × ((ts : ℕ → g.row.T.Denot) → ((i : ℕ) (t : g.row.T.Denot) → goal.F-post g l.along i t → t ≡ ts i)
    → Variables (λ k. g.T.FourTransform.line (ts k) (2 ^ 64)) l.degrees
    (strided (λ k. g.T.FourTransform.line (ts (0 + k)) (2 ^ 64)) 1 l.degrees (at l.initial.table)) (length l.initial.table) l.table l.variable l.stride)
