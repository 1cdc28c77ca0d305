-- The loop: `low` is n + 1 once n passes are done, and each turn makes two. At the end n is the degree d, or one more, which changes nothing; it stops
-- early where the last pass left only zeros.
use Rattle.std.proofs.Common.{ℕ}
use Rattle.lines.proofs.Passes.{Passes}
use Rattle.lines.proofs.differences.difference_line.Given as goal

abbrev pub invariant-loop-low : goal.invariant-loop-low
invariant-loop-low l = (d : ℕ) → Passes 1 d l.initial.part l.part l.low
