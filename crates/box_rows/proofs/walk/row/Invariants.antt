-- The loop: the first i cells are done.
use Rattle.std.proofs.Common.{◌==◌}
use Rattle.meaning.specs.Boxes.{digits}
use Rattle.meaning.specs.Values.{bound}
use Rattle.box_rows.specs.Jobs.{Walked}
use Rattle.box_rows.proofs.walk.row.Given as goal

abbrev pub invariant-loop-i : goal.invariant-loop-i
invariant-loop-i g l =
    let j = g.J.Job in
    Walked (j.left l.job) (j.passes l.job) (λ n. bound l.part.bits (digits l.part.degrees.now n)) l.part.from l.i l.initial.table l.table (l.found == 0)
