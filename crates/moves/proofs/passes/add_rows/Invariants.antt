-- The first return is never taken: no table is that long. The loop: the numbers from `from` up to i have got the products added, the others are as they
-- were.
use Rattle.std.proofs.Common.{◌+◌, ◌^◌, ◌≤◌}
use Rattle.moves.specs.NodeRows.{Added}
use Rattle.moves.proofs.passes.add_rows.Given as goal

abbrev pub invariant-loop-i : goal.invariant-loop-i
invariant-loop-i l = (l.from ≤ l.i) × (l.i ≤ l.from + l.stride) × Added (2 ^ 64) l.stride l.from l.near l.far l.initial.part l.part l.i
