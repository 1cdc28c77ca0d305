-- The loop: writing the lines of the cells that are left ends the writing of all lines, and there is room for them.
use Rattle.std.proofs.Common.{◌+◌, ◌≤◌, length, replicate, drop}
use Rattle.bench_file.specs.Layout.{term_lines}
use Rattle.bench_file.specs.Printed.{Writes}
use Rattle.bench_file.specs.declared.answer.Printer.{Printer}
use Rattle.bench_file.proofs.answer.Printer.terms.Given as goal

abbrev pub invariant-loop-cell : goal.invariant-loop-cell
invariant-loop-cell l =
    (l.self.size + length (term_lines (replicate l.fn.cube.variables l.fn.cube.degree) l.cell (drop l.cell l.coefficients)) ≤ length l.self.out.now)
    × ((p : Printer) → Writes l.self p (term_lines (replicate l.fn.cube.variables l.fn.cube.degree) l.cell (drop l.cell l.coefficients))
    → Writes l.initial.self p (term_lines (replicate l.fn.cube.variables l.fn.cube.degree) 0 l.coefficients))
