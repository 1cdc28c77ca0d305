-- The first return is never taken: no table is that long. The loop comes down: from place i on the numbers are two passes further, below it they are as
-- they were. The single pass does the lowest index.
use Rattle.std.proofs.Common.{◌+◌}
use Rattle.lines.proofs.PairPasses.{PairPassing}
use Rattle.lines.proofs.differences.difference_pair.Given as goal

abbrev pub invariant-loop-i : goal.invariant-loop-i
invariant-loop-i l = PairPassing l.stride (l.low + l.stride) l.initial.part l.part l.i
