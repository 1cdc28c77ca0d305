-- The loop: the passes from degree - 1 down to `done` are made over the line as it came.
use Rattle.std.proofs.Common.{suc, ◌^◌}
use Rattle.meaning.specs.Tables.{at}
use Rattle.theory.specs.MovedLines.{shift}
use Rattle.lines.specs.NodeOrders.{Opened}
use Rattle.moves.proofs.first.move_long.Given as goal

abbrev pub invariant-loop-done : goal.invariant-loop-done
invariant-loop-done l = Opened (2 ^ 64) (shift (2 ^ 64) l.lines.offset) 1 l.lines.degree (at l.initial.part) (suc l.lines.degree) l.done l.part
