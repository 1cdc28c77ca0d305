-- The loop: the numbers before the index are 0, the others as they were.
use Rattle.theory.specs.Tables.{Filled}
use Rattle.tables.proofs.clear.Given as goal

abbrev pub invariant-loop-entry : goal.invariant-loop-entry
invariant-loop-entry l = Filled (λ n. 0) l.initial.table l.table l.entry-index
