-- The loop: the passes before `pass` are made over the block as it came, pass 0 being none (`passed-one`). After pass
-- degree - 1 the lines are those of falling factorials (`shows_falling`).
use Rattle.std.proofs.Common.{◌^◌, length}
use Rattle.meaning.specs.Tables.{at}
use Rattle.lines.specs.NodePasses.{Passed}
use Rattle.lines.specs.NodeConversions.{to_falling}
use Rattle.lines.proofs.falling.divide_passes.Given as goal

abbrev pub invariant-loop-pass : goal.invariant-loop-pass
invariant-loop-pass l = Passed (2 ^ 64) to_falling l.block.stride l.block.degree (at l.initial.part) (length l.initial.part) l.pass l.part
