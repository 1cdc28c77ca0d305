-- The loop: the exponents before the index are those of the list, the others as they were.
use Rattle.meaning.specs.Tables.{at}
use Rattle.theory.specs.Tables.{Filled}
use Rattle.weighted_poly_fit.proofs.columns.write_list.Given as goal

abbrev pub invariant-loop-i : goal.invariant-loop-i
invariant-loop-i l = Filled (at l.list) l.initial.part l.part l.i
