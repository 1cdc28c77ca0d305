-- The loop comes down: from place i on the numbers are one pass further, below it they are as they were.
use Rattle.lines.proofs.Passes.{Passing}
use Rattle.lines.proofs.differences.difference_pass.Given as goal

abbrev pub invariant-loop-i : goal.invariant-loop-i
invariant-loop-i l = Passing l.stride l.low l.initial.part l.part l.i
