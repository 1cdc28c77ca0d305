-- The loop: the cells below exponent e have their numbers (`Adding`), and `next_cells` puts the cells of e behind them.
use Rattle.box_rows.specs.Layouts.{Adding}
use Rattle.box_rows.proofs.layout.add_variable.Given as goal

abbrev pub invariant-loop-e : goal.invariant-loop-e
invariant-loop-e g l = Adding (g.N.CellNumbers.number l.numbers) l.size l.d l.initial.table l.table l.from l.e
