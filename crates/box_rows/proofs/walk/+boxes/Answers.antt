use Rattle.std.proofs.Common.{ℕ, ◌<◌, ◌+◌, ◌-◌, ◌/◌, length, refl, arith, rules}
use Rattle.meaning.specs.Tables.{at}
use Rattle.box_rows.specs.Jobs.{AllAtHand}
use Rattle.box_rows.specs.Rows.{begins_short, begins_others}
use Rattle.box_rows.specs.Walks.{walk_start}
use Rattle.box_rows.proofs.Turns.{walked_cong, turns_start, turns_inside, turns_next, turns_fail, turns-done, no_bits, hand_part}
use Rattle.box_rows.proofs.walk.+boxes.Goals as goal

pub returns-then-part-eq0 : goal.returns-then-part-eq0
returns-then-part-eq0 g t c = walked_cong _ _ refl (λ i h. no_bits _ _ _ c.if-part-eq0.true) c.line.ensures

pub loop-e-init : goal.loop-e-init
loop-e-init g t c =
    let some : 0 < length c.args.part.now.degrees.now = omega (arith, begins_short _ _ c.requires.begins, c.if-degrees-rows.false) in
    turns_start (walk_start _ _ some c.args.part.now.whole)

pub boxes-requires : goal.boxes-requires
boxes-requires g t c κs within =
    let l = c.loop-e in
    let ds = c.args.part.now.degrees.now in
    let size : ℕ = c.args.part.now.count / (at ds (length ds - 1) + 1) in
    let here = turns_inside l.invariant (omega (arith, c.loop-e-test.true)) in
    let p = g.J.Job.at_hand c.args.job.now (length l.table) in
    let hand : AllAtHand p l.from size = hand_part p (rw l.auto.table c.requires.hand) here in
    (search rules, (search rules, (begins_others _ _ c.requires.begins c.if-degrees-rows.false, hand)))

pub returns-then-not-boxes : goal.returns-then-not-boxes
returns-then-not-boxes g t c = turns_fail c.loop-e.invariant (omega (arith, c.loop-e-test.true)) c.boxes.ensures (λ i h. refl) c.if-not-boxes.true

pub loop-e-preserved : goal.loop-e-preserved
loop-e-preserved g t c =
    turns_next c.loop-e.invariant (omega (arith, c.loop-e-test.true)) c.boxes.ensures (λ i h. refl) _ c.if-not-boxes.false c.bits_left-left.ensures

pub returns : goal.returns
returns g t c = turns-done c.loop-e.invariant (omega (arith, c.loop-e-test.false))
