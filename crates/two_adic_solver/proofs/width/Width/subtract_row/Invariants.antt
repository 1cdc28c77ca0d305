-- The loop: the numbers before k are less q times the pivot row's, the others as they were.
use Rattle.std.proofs.Common.{◌*◌, ◌^◌}
use Rattle.meaning.specs.Tables.{at}
use Rattle.meaning.specs.Differences.{minus}
use Rattle.theory.specs.Tables.{Filled}
use Rattle.two_adic_solver.proofs.width.Width.subtract_row.Given as goal

abbrev pub invariant-loop-k : goal.invariant-loop-k
invariant-loop-k l = Filled (λ k. minus (2 ^ l.self.bits) (at l.initial.row k) (l.q * at l.pivot k)) l.initial.row l.row l.k
