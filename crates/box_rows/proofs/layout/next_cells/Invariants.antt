-- The loop: the first r cells have their numbers (`Behind`).
use Rattle.box_rows.proofs.NextCells.{Behind}
use Rattle.box_rows.proofs.layout.next_cells.Given as goal

abbrev pub invariant-loop-r : goal.invariant-loop-r
invariant-loop-r g l = Behind (g.N.CellNumbers.number l.numbers) l.size l.from l.e l.initial.table l.table l.r
