-- The loop: writing the digits of `rest` that are left ends the writing of all digits of the cell, and there is room for them.
use Rattle.std.proofs.Common.{◌+◌, ◌*◌, ◌-◌, ◌≤◌, length, replicate}
use Rattle.meaning.specs.Boxes.{digits}
use Rattle.bench_file.specs.Text.{numbers}
use Rattle.bench_file.specs.Printed.{Writes}
use Rattle.bench_file.specs.declared.answer.Printer.{Printer}
use Rattle.bench_file.proofs.answer.Printer.exponents.Given as goal

abbrev pub invariant-loop : goal.invariant-loop
invariant-loop l =
    (l.self.size + 21 * (l.end - l.counter) ≤ length l.self.out.now)
    × ((p : Printer) → Writes l.self p (numbers (digits (replicate (l.end - l.counter) l.fn.cube.degree) l.rest))
    → Writes l.initial.self p (numbers (digits (replicate l.end l.fn.cube.degree) l.cell)))
