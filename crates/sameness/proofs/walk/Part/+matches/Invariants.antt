-- The measure is the number of degrees. A line is that of `matches_line`. Else the loop: the sub-boxes below the last exponent e are matched (`Matching`), and
-- `left` are the bits that e leaves.
use Rattle.std.proofs.Common.{length}
use Rattle.sameness.specs.Partners.{limits_of, steps_of}
use Rattle.sameness.proofs.WalkTurns.{Matching}
use Rattle.sameness.proofs.walk.Part.+matches.Given as goal

abbrev pub decreases-matches : goal.decreases-matches
decreases-matches l = length l.self.now.degrees.now

abbrev pub invariant-loop-e : goal.invariant-loop-e
invariant-loop-e l =
    let p = l.self in
    Matching p.bits p.degrees.now p.coeffs.now (limits_of p.partners.now) (steps_of p.partners.now) l.other p.place l.size l.left l.e l.from
