-- With equal lengths, the loop: the numbers before the index are those of `from`, the others as they were.
use Rattle.meaning.specs.Tables.{at}
use Rattle.theory.specs.Tables.{Filled}
use Rattle.tables.proofs.copy.Given as goal

abbrev pub invariant-loop-i : goal.invariant-loop-i
invariant-loop-i l = Filled (at l.from) l.initial.to l.to l.i
