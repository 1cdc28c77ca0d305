-- The loop: the passes before `pass` are made over the line as it came, pass 0 being none (`passed-one`). After pass
-- degree - 1 the line is that of falling factorials (`shows_falling`).
use Rattle.std.proofs.Common.{◌≡◌, suc, ◌^◌, length}
use Rattle.meaning.specs.Tables.{at}
use Rattle.lines.specs.NodePasses.{Passed}
use Rattle.lines.specs.NodeConversions.{to_falling}
use Rattle.lines.proofs.falling.divide_line.Given as goal

abbrev pub invariant-loop-pass : goal.invariant-loop-pass
invariant-loop-pass l = (length l.part ≡ suc l.degree) × Passed (2 ^ 64) to_falling 1 l.degree (at l.initial.part) (length l.initial.part) l.pass l.part
