-- The loop goes up from index `pass`, two places a turn: before place i the pass is made, from i on not yet, for whatever coefficients f; the measure
-- is the places left. A place that is left over comes last. The pass ends below the highest index, which it does not change.
use Rattle.std.proofs.Common.{◌≡◌, ℕ, suc, ◌-◌, ◌*◌, ◌^◌, ◌≤◌, length}
use Rattle.lines.specs.NodeOrders.{Opened, Opening}
use Rattle.lines.specs.NodeConversions.{to_powers}
use Rattle.lines.proofs.powers.undivide.Given as goal

abbrev pub invariant-loop-i : goal.invariant-loop-i
invariant-loop-i l =
    (length l.part ≡ length l.initial.part)
    × (l.fn.block.stride * l.pass ≤ l.i)
    × ((f : ℕ → ℕ) → Opened (2 ^ 64) (to_powers (2 ^ 64)) l.fn.block.stride l.fn.block.degree f (length l.initial.part) (suc l.pass) l.initial.part
    → Opening (2 ^ 64) (to_powers (2 ^ 64)) l.fn.block.stride l.fn.block.degree f (length l.initial.part) l.pass l.i l.part)

abbrev pub decreases-loop-i : goal.decreases-loop-i
decreases-loop-i l = l.last - l.i
