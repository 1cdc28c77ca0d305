-- The loop: the numbers from `from` up to i have got the product added, the others are as they were.
use Rattle.std.proofs.Common.{◌+◌, ◌^◌, ◌≤◌}
use Rattle.moves.specs.NodeRows.{Added}
use Rattle.moves.proofs.passes.add_row.Given as goal

abbrev pub invariant-loop-i : goal.invariant-loop-i
invariant-loop-i l = (l.from ≤ l.i) × (l.i ≤ l.from + l.stride) × Added (2 ^ 64) l.stride l.from l.factor 0 l.initial.part l.part l.i
