-- The loop: the numbers before i are those of `from`, moved, the others as they were.
use Rattle.std.proofs.Common.{◌*◌, ◌%◌, ◌^◌}
use Rattle.meaning.specs.Tables.{at}
use Rattle.theory.specs.Tables.{Filled}
use Rattle.multivar_poly_recovery.proofs.shifts.raise.Given as goal

abbrev pub invariant-loop-i : goal.invariant-loop-i
invariant-loop-i l = Filled (λ k. (at l.from k * 2 ^ l.by) % 2 ^ 64) l.initial.to l.to l.i
