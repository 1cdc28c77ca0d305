-- The variable does not stand before place i, whose stride is at hand.
use Rattle.sameness.proofs.Lookups.{Seeking}
use Rattle.sameness.proofs.checked.Checked.partner_of.Given as goal

abbrev pub invariant-loop-i : goal.invariant-loop-i
invariant-loop-i l = Seeking l.v l.self.support.now l.self.degrees.now l.stride l.i
