-- The loop: the lines below the last exponent e pass (`Turns`), and `left` are the bits that e leaves.
use Rattle.box_rows.proofs.Turns.{Turns}
use Rattle.box_rows.proofs.walk.plane.Given as goal

abbrev pub invariant-loop-e : goal.invariant-loop-e
invariant-loop-e g l =
    let j = g.J.Job in
    let p = l.part in
    Turns (j.left l.job) (j.passes l.job) p.bits p.degrees.now p.from p.count l.initial.table l.table l.size l.left l.e l.from
