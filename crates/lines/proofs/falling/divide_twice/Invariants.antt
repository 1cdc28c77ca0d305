-- The loop comes down: from place i on the line is two passes further, for whatever coefficients f. It ends above index `pass`, which
-- only the first of the two passes reaches.
use Rattle.std.proofs.Common.{◌≡◌, ℕ, suc, ◌+◌, ◌^◌, ◌<◌, ◌≤◌, length}
use Rattle.lines.specs.NodePasses.{Passed}
use Rattle.lines.specs.NodeConversions.{to_falling}
use Rattle.lines.proofs.LinePasses.{Both}
use Rattle.lines.proofs.falling.divide_twice.Given as goal

abbrev pub invariant-loop-i : goal.invariant-loop-i
invariant-loop-i l =
    (length l.part ≡ length l.initial.part)
    × (l.pass + 1 ≤ l.i)
    × (l.i < length l.part)
    × ((d : ℕ) (f : ℕ → ℕ) → length l.initial.part ≡ suc d → Passed (2 ^ 64) to_falling 1 d f (length l.initial.part) l.pass l.initial.part
    → Both d l.pass f (length l.initial.part) l.part l.i l.one l.two)
