-- The degrees before place i are within their limits.
use Rattle.std.proofs.Common.{length}
use Rattle.meaning.specs.Tables.{at}
use Rattle.sameness.specs.Places.{lookup}
use Rattle.sameness.proofs.Lookups.{Covering}
use Rattle.sameness.proofs.checked.Checked.lies_within.Given as goal

abbrev pub invariant-loop-i : goal.invariant-loop-i
invariant-loop-i l =
    Covering (length l.self.support.now) (λ k. lookup (at l.self.support.now k) l.other.support.now l.other.degrees.now) l.self.degrees.now l.i
