-- Moved by no bits the table is as it was. The loop: the numbers before the index are moved, the others as they were.
use Rattle.std.proofs.Common.{◌/◌, ◌^◌}
use Rattle.meaning.specs.Tables.{at}
use Rattle.theory.specs.Tables.{Filled}
use Rattle.multivar_poly_recovery.proofs.shifts.lower.Given as goal

abbrev pub invariant-loop-x : goal.invariant-loop-x
invariant-loop-x l = Filled (λ k. at l.initial.table k / 2 ^ l.by) l.initial.table l.table l.x-index
