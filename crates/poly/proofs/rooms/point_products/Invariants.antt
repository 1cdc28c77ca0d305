-- The loop fills the places of one coordinate after the other.
use Rattle.std.proofs.Common.{◌%◌, ◌^◌, length}
use Rattle.meaning.specs.Tables.{at}
use Rattle.meaning.specs.Factorials.{falling}
use Rattle.theory.specs.FilledRows.{Rows}
use Rattle.poly.proofs.rooms.point_products.Given as goal

abbrev pub invariant-loop-coordinate : goal.invariant-loop-coordinate
invariant-loop-coordinate l = Rows (λ i e. falling (at l.point i) e % 2 ^ l.bitwidth) (length l.point) l.size l.initial.table l.table l.from l.coordinate-index
