-- The loop: `low` is stride * (n + 1) once n passes are done; at the end of the block these are d or more, which is all.
use Rattle.std.proofs.Common.{◌-◌, length}
use Rattle.lines.proofs.Passes.{Passes}
use Rattle.lines.proofs.differences.difference_short.Given as goal

abbrev pub invariant-loop-low : goal.invariant-loop-low
invariant-loop-low l = Passes l.block.stride l.block.degree l.initial.part l.part l.low

abbrev pub decreases-loop-low : goal.decreases-loop-low
decreases-loop-low l = length l.initial.part - l.low
