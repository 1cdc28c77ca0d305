-- The loop: the passes down to `pass` are made over the block as it came. With at most pass 0 left, which is none, the lines are
-- those of powers (`shows_powers`).
use Rattle.std.proofs.Common.{◌^◌, length}
use Rattle.meaning.specs.Tables.{at}
use Rattle.lines.specs.NodeOrders.{Opened}
use Rattle.lines.specs.NodeConversions.{to_powers}
use Rattle.lines.proofs.powers.undivide_passes.Given as goal

abbrev pub invariant-loop-pass : goal.invariant-loop-pass
invariant-loop-pass l = Opened (2 ^ 64) (to_powers (2 ^ 64)) l.block.stride l.block.degree (at l.initial.part) (length l.initial.part) l.pass l.part
