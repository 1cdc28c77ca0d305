-- The masks of the row's cells are those of the box.
use Rattle.std.proofs.Common.{◌≡◌, ◌<◌, ◌≤◌, ◌-◌, ◌/◌, ◌^◌, length, ap, ◌∙◌, arith, length-take-le, get_or-take}
use Rattle.meaning.specs.Boxes.{cells, digits}
use Rattle.meaning.specs.Values.{weight, bound}
use Rattle.box_rows.specs.Rows.{row_mask}
use Rattle.box_rows.proofs.Turns.{walked_none, walked_cell}
use Rattle.box_rows.proofs.walk.row.Goals as goal

pub loop-i-init : goal.loop-i-init
loop-i-init g c = walked_none _ _ _

pub loop-i-preserved : goal.loop-i-preserved
unfolding bound
loop-i-preserved g c =
    let l = c.loop-i in
    let part = c.args.part.now in
    let rows = c.args.rows.now in
    let same : cells part.degrees.now ≡ cells rows.row.now = ap cells c.requires.row in
    let room : part.count ≤ length rows.masks.now = omega (arith, part.whole, same, rows.room) in
    let inside : l.i < part.count = rw (length-take-le part.count rows.masks.now room) at c.loop-i-test.true in
    let laid = rows.laid l.i (omega (arith, part.whole, same)) in
    walked_cell l.found _ l.invariant
    (c.cell-found.ensures (part.bits - weight (digits part.degrees.now l.i)) (omega (arith, part.few))
    (ap (◌/ 2 ^ (64 - part.bits)) (get_or-take part.count rows.masks.now l.i 0 inside ∙ laid)
    ∙ rw (← c.requires.row) (row_mask part.bits (digits part.degrees.now l.i) part.few)))
