-- The loop: the first i entries are done, and the mask is that of entry i.
use Rattle.std.proofs.Common.{◌-◌, ◌^◌, ◌==◌}
use Rattle.meaning.specs.Factorials.{factorial, twos}
use Rattle.box_rows.specs.Jobs.{Walked}
use Rattle.box_rows.specs.Lines.{LineMask}
use Rattle.box_rows.proofs.walk.line.Given as goal

abbrev pub invariant-loop-i : goal.invariant-loop-i
invariant-loop-i g l =
    let j = g.J.Job in
    Walked (j.left l.job) (j.passes l.job) (λ n. 2 ^ (l.bits - twos (factorial n))) l.from l.i l.initial.table l.table (l.found == 0)
    × LineMask l.bits l.i l.mask
