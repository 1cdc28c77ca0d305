-- The loop: the lines below the last exponent e pass (`Turns`), and `left` are the bits that e leaves.
use Rattle.std.proofs.Common.{◌≡◌, ℕ, ◌-◌, length, refl, ap, arith}
use Rattle.meaning.specs.Tables.{at}
use Rattle.theory.specs.LastVariable.{final}
use Rattle.box_rows.specs.Walks.{walk_lines}
use Rattle.box_rows.proofs.Turns.{turns_start, turns_inside, turns_next, turns_fail, turns-done, turns_line, second, hand_part}
use Rattle.box_rows.proofs.walk.plane.Goals as goal

pub loop-e-init : goal.loop-e-init
loop-e-init g c = turns_start (walk_lines _ _ c.requires.two c.args.part.now.whole _ refl)

pub line-requires-clause-low : goal.line-requires-clause-low
line-requires-clause-low g c = omega (arith, turns_inside c.loop-e.invariant (second _ c.requires.two c.loop-e-test.true), c.args.part.now.low)

pub line-requires-clause-hand : goal.line-requires-clause-hand
line-requires-clause-hand g c =
    let l = c.loop-e in
    hand_part (g.J.Job.at_hand c.args.job.now (length l.table)) (rw l.auto.table c.requires.hand)
    (turns_inside l.invariant (second _ c.requires.two c.loop-e-test.true))

pub returns-then-not-line : goal.returns-then-not-line
returns-then-not-line g c =
    let r = c.loop-e.invariant in
    let two = c.requires.two in
    turns_fail r (second _ two c.loop-e-test.true) c.line.ensures (turns_line r two) c.if-not-line.true

pub loop-e-preserved : goal.loop-e-preserved
loop-e-preserved g c =
    let r = c.loop-e.invariant in
    let two = c.requires.two in
    turns_next r (second _ two c.loop-e-test.true) c.line.ensures (turns_line r two) _ c.if-not-line.false c.bits_left-left.ensures

pub returns : goal.returns
returns g c =
    let ds = c.args.part.now.degrees.now in
    let last : final ds ≡ at ds 1 = ap (λ (n : ℕ). at ds (n - 1)) c.requires.two in
    turns-done c.loop-e.invariant (omega (arith, last))
