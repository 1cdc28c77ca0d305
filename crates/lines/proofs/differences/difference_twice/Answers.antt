-- The loop goes up: below `place` the numbers are two passes further, from there on as they were. `number` is what the place before it had
-- at first, and `once` is what the second pass takes away at `place`.
use Rattle.std.proofs.Common.{arith}
use Rattle.lines.proofs.TwoPasses.{twice_start, twice_step}
use Rattle.lines.proofs.differences.difference_twice.Goals as goal

pub loop-place-init : goal.loop-place-init
loop-place-init c = twice_start _ _ c.requires.0 c.requires.1

pub loop-place-preserved : goal.loop-place-preserved
loop-place-preserved c =
    twice_step _ _ c.loop-place.part _ _ c.loop-place.place _ _ c.loop-place.invariant (omega arith)
    c.wrapping_sub-difference.ensures c.wrapping_sub.ensures
