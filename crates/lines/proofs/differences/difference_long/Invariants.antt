-- The loop: `low` is stride * (n + 1) once n passes are done, and each turn makes two; at the end of the block these are d
-- or more, which is all. It stops early where the last pass left only zeros.
use Rattle.lines.proofs.Passes.{Passes}
use Rattle.lines.proofs.differences.difference_long.Given as goal

abbrev pub invariant-loop-low : goal.invariant-loop-low
invariant-loop-low l = Passes l.fn.block.stride l.fn.block.degree l.initial.part l.part l.low
