-- The loop goes down, two places a turn: from place i on the pass is made, below i not yet, for whatever coefficients f the block had at first; the
-- measure is i. A place that is left over comes last. The pass ends at index `pass`, below which it changes nothing.
use Rattle.std.proofs.Common.{◌≡◌, ℕ, ◌*◌, ◌^◌, ◌≤◌, length}
use Rattle.lines.specs.NodePasses.{Passed, Passing}
use Rattle.lines.specs.NodeConversions.{to_falling}
use Rattle.lines.proofs.falling.divide.Given as goal

abbrev pub invariant-loop-i : goal.invariant-loop-i
invariant-loop-i l =
    (length l.part ≡ length l.initial.part)
    × (l.i ≤ l.fn.block.stride * l.fn.block.degree)
    × ((f : ℕ → ℕ) → Passed (2 ^ 64) to_falling l.fn.block.stride l.fn.block.degree f (length l.initial.part) l.pass l.initial.part
    → Passing (2 ^ 64) to_falling l.fn.block.stride l.fn.block.degree f (length l.initial.part) l.pass l.i l.part)

abbrev pub decreases-loop-i : goal.decreases-loop-i
decreases-loop-i l = l.i
