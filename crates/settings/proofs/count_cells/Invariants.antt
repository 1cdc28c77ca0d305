-- The loop keeps: the count times the cells of the variables that are left is the cells of the box, and the count is at most one above the limit.
use Rattle.std.specs.Prelude.{◌+◌, ◌*◌, ◌≤◌, ◌≡◌, drop}
use Rattle.meaning.specs.Boxes.{cells}
use Rattle.settings.proofs.count_cells.Given as goal

abbrev pub invariant-loop-degree : goal.invariant-loop-degree
invariant-loop-degree l = (cells l.degrees ≡ l.count * cells (drop l.degree-index l.degrees)) × (l.count ≤ l.limit + 1)
