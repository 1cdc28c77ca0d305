-- The loop: the first i variables have their numbers (`Laying`), and belong to the row (`InRow`).
use Rattle.box_rows.specs.Layouts.{Laying}
use Rattle.box_rows.proofs.RowLayouts.{InRow}
use Rattle.box_rows.proofs.layout.lay_out_numbers.Given as goal

abbrev pub invariant-loop-i : goal.invariant-loop-i
invariant-loop-i g l =
    record {
      laying : Laying (g.N.CellNumbers.number l.numbers) l.degrees l.initial.table l.table l.size l.i;
      in_row : InRow l.degrees l.size l.i;
    }
