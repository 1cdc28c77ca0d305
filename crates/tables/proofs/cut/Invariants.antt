-- The loop: the numbers before the index are cut, the others as they were. The mask leaves the remainder.
use Rattle.std.proofs.Common.{◌%◌, ◌^◌, min}
use Rattle.meaning.specs.Tables.{at}
use Rattle.theory.specs.Tables.{Filled}
use Rattle.tables.proofs.cut.Given as goal

abbrev pub invariant-loop-entry : goal.invariant-loop-entry
invariant-loop-entry l = Filled (λ k. at l.initial.table k % 2 ^ min l.width 64) l.initial.table l.table l.entry-index
