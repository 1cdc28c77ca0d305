-- The measure is the number of degrees. A box that is one row is `row`'s, one variable `line`'s, two `plane`'s. Else the loop: the sub-boxes below exponent e
-- pass and are done, and `bits` are those that e leaves; the first sub-box that fails makes the box fail.
use Rattle.std.proofs.Common.{◌≡◌, suc, ◌-◌, ◌<◌, length, refl, ap, ◌∙◌, arith}
use Rattle.std.specs.Option.{is_some}
use Rattle.meaning.specs.Tables.{at}
use Rattle.box_rows.specs.Rows.{begins_short, begins_others}
use Rattle.multivar_poly_recovery.proofs.Servings.{reaching_take, single, single_cells, double_cells}
use Rattle.multivar_poly_recovery.proofs.SubBoxes.{promise_split, layout, sub_boxes_start, sub_box_length, sub_box_fails, sub_boxes_step}
use Rattle.multivar_poly_recovery.proofs.extraction.Left.+boxes.Goals as goal

pub line-requires : goal.line-requires
line-requires t c =
    let one = c.if-degrees-eq1.true in
    omega (arith, c.requires.part_len, single_cells c.args.degrees.now one, c.requires.reach 0 (omega (arith, one)))

pub returns-then-degrees-eq1 : goal.returns-then-degrees-eq1
returns-then-degrees-eq1 t c =
    let one = c.if-degrees-eq1.true in
    let ds = c.args.degrees.now in
    promise_split _ _ _ ds _ c.args.part.now _ _ (single ds one) (c.line.ensures _ (c.requires.part_len ∙ single_cells ds one))

pub plane-requires : goal.plane-requires
plane-requires t c =
    let ds = c.args.degrees.now in
    let short = begins_short _ ds c.requires.begins in
    let two : length ds ≡ 2 = omega (arith, short, c.if-degrees-tables.false, c.if-degrees-eq1.false, c.if-degrees-tables-eq2.true) in
    (c.requires.part_len ∙ double_cells _ two, c.requires.reach 0 (omega (arith, two)), c.requires.reach 1 (omega (arith, two)))

pub loop-e-init : goal.loop-e-init
loop-e-init t c =
    let short = begins_short _ _ c.requires.begins in
    let some : 0 < length c.args.degrees.now = omega (arith, short, c.if-degrees-tables.false) in
    (sub_boxes_start _ _ _ _ _ _, layout _ _ some c.requires.part_len, refl)

pub boxes-requires : goal.boxes-requires
boxes-requires t c =
    let ds = c.args.degrees.now in
    let l = c.loop-e in
    let i = l.invariant in
    let inside : l.e < suc (at ds (length ds - 1)) = omega (arith, c.loop-e-test.true) in
    let short = begins_short _ ds c.requires.begins in
    let some : 0 < length ds = omega (arith, short, c.if-degrees-tables.false) in (
      omega (arith, i.1.shorter, some, c.decreases),
      (
        sub_box_length _ _ _ _ _ _ l.part l.bits l.from l.e i.0 inside i.1.whole _ i.1.sized,
        (begins_others _ ds c.requires.begins c.if-degrees-tables.false, reaching_take _ _ ds (omega arith) c.requires.reach),
      ),
    )

pub returns-in_err-boxes : goal.returns-in_err-boxes
returns-in_err-boxes t c =
    let a = c.args in
    let ds = a.degrees.now in
    let l = c.loop-e in
    let i = l.invariant in
    let inside : l.e < suc (at ds (length ds - 1)) = omega (arith, c.loop-e-test.true) in
    let short = begins_short _ ds c.requires.begins in
    let reached : l.e < length a.tables.now.inverses.now =
    omega (arith, inside, c.requires.reach (length ds - 1) (omega (arith, short, c.if-degrees-tables.false))) in
    let came = rw (c.sub_box-left.ensures.0, c.sub_box-left.ensures.1) at c.boxes.ensures in
    rw c.from_residual.ensures
    (promise_split _ _ _ _ _ a.part.now _ _ i.1.split
    (sub_box_fails _ _ _ _ _ a.part.now l.part l.bits l.from l.e i.0 inside i.1.whole _ i.1.sized
    a.tables.now.inverses.now a.tables.now.serve reached _ c.sub_box-left.ensures.2 _ _ came _ (ap is_some c.in_err-boxes.was)))

pub loop-e-preserved : goal.loop-e-preserved
loop-e-preserved t c =
    let a = c.args in
    let ds = a.degrees.now in
    let l = c.loop-e in
    let i = l.invariant in
    let inside : l.e < suc (at ds (length ds - 1)) = omega (arith, c.loop-e-test.true) in
    let short = begins_short _ ds c.requires.begins in
    let reached : l.e < length a.tables.now.inverses.now =
    omega (arith, inside, c.requires.reach (length ds - 1) (omega (arith, short, c.if-degrees-tables.false))) in
    let came = rw (c.sub_box-left.ensures.0, c.sub_box-left.ensures.1) at c.boxes.ensures in (
      sub_boxes_step _ _ _ _ _ _ l.part l.bits l.from l.e i.0 inside i.1.whole _ i.1.sized
          a.tables.now.inverses.now a.tables.now.serve reached _ c.sub_box-left.ensures.2 _ _
          came _ c.boxes.auto.part (ap is_some c.in_ok-boxes.was) c.bits_left-bits.ensures,
      i.1,
      i.2,
    )
