-- The loop goes up: below `place` the numbers are two passes further, from there on as they were. `number` is what the place before it had
-- at first, and `once` is what the second pass takes away at `place`.
use Rattle.lines.proofs.TwoPasses.{Twice}
use Rattle.lines.proofs.differences.difference_twice.Given as goal

abbrev pub invariant-loop-place : goal.invariant-loop-place
invariant-loop-place l = Twice l.low l.initial.part l.part l.number l.once l.place
