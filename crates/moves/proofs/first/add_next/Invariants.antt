-- The loop: the lines before that of place i have the product added; the measure is the places left.
use Rattle.std.proofs.Common.{◌+◌, ◌-◌, ◌^◌, ◌≤◌, length}
use Rattle.moves.specs.NodeLines.{Numbers}
use Rattle.moves.proofs.first.add_next.Given as goal

abbrev pub invariant-loop-i : goal.invariant-loop-i
invariant-loop-i l = (l.i ≤ length l.part + l.degree) × Numbers (2 ^ 64) l.degree l.place l.factor 0 l.initial.part l.part l.i

abbrev pub decreases-loop-i : goal.decreases-loop-i
decreases-loop-i l = length l.initial.part - l.i
