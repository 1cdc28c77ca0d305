-- The loop: the lines below exponent e pass and are done, and `bits` are those that e leaves; the first line that fails makes the box fail.
use Rattle.std.proofs.Common.{◌≡◌, suc, ◌+◌, ◌*◌, ◌<◌, ◌≤◌, [], ◌∷◌, length, sym, refl, ap, ◌∙◌, add-one, arith}
use Rattle.std.specs.Option.{is_some}
use Rattle.meaning.specs.Boxes.{cells}
use Rattle.theory.specs.Parts.{part}
use Rattle.multivar_poly_recovery.proofs.Servings.{single_cells}
use Rattle.multivar_poly_recovery.proofs.SubBoxes.{sub_boxes_start, sub_box_fits, sub_box_length, sub_box_fails, sub_boxes_step, sub_boxes_done}
use Rattle.multivar_poly_recovery.proofs.extraction.Left.plane.Goals as goal
use Rattle.multivar_poly_recovery.proofs.extraction.Left.plane.Goals.{In-loop-e}

-- the line of exponent e, whose inverse is at hand, and the box as lines
exponent : (c : In-loop-e) → c.loop-e.e < suc c.args.last
exponent c = omega (arith, c.loop-e-test.true)

reached : (c : In-loop-e) → c.loop-e.e < length c.args.inverses.now.table.now
reached c = omega (arith, exponent c, c.requires.2)

sized : (c : In-loop-e) → c.args.first + 1 ≡ cells (c.args.first ∷ [])
sized c = add-one _ ∙ sym (single_cells (c.args.first ∷ []) refl)

whole : (c : In-loop-e) → length c.args.part.now ≡ suc c.args.last * cells (c.args.first ∷ [])
whole c = c.requires.0 ∙ ap (suc c.args.last *◌) (sym (single_cells (c.args.first ∷ []) refl))

fits : (c : In-loop-e) → c.loop-e.from + (c.args.first + 1) ≤ length c.loop-e.part
fits c = let l = c.loop-e in sub_box_fits _ _ _ _ _ _ l.part l.bits l.from l.e l.invariant (exponent c) (whole c) _ (sized c)

long : (c : In-loop-e) → length (part c.loop-e.from (c.loop-e.from + (c.args.first + 1)) c.loop-e.part) ≡ suc c.args.first
long c =
    let l = c.loop-e in
    sub_box_length _ _ _ _ _ _ l.part l.bits l.from l.e l.invariant (exponent c) (whole c) _ (sized c) ∙ single_cells (c.args.first ∷ []) refl

pub loop-e-init : goal.loop-e-init
loop-e-init c = sub_boxes_start _ _ _ _ _ _

pub overflow_add-end : goal.overflow_add-end
overflow_add-end c = omega (arith, fits c)

pub offset_bounds-part-from : goal.offset_bounds-part-from
offset_bounds-part-from c = omega (arith, fits (goal.at.offset_bounds-part-from c).In-loop-e)

pub slice_bounds-line-end : goal.slice_bounds-line-end
slice_bounds-line-end c = fits (goal.at.slice_bounds-line-end c).In-loop-e

pub returns-in_err-line : goal.returns-in_err-line
returns-in_err-line c =
    let k = (goal.at.returns-in_err-line c).In-loop-e in
    let l = c.loop-e in
    let came = rw (c.sub_box.ensures.0, c.sub_box.ensures.1) at (c.line.ensures _ (long k)) in
    rw c.from_residual.ensures
    (sub_box_fails _ _ _ _ _ c.args.part.now l.part l.bits l.from l.e l.invariant (exponent k) (whole k) _ (sized k)
    c.args.inverses.now.table.now c.args.inverses.now.serve (reached k) _ c.sub_box.ensures.2 _ _ came _ (ap is_some c.in_err-line.was))

pub loop-e-preserved : goal.loop-e-preserved
loop-e-preserved c =
    let k = (goal.at.loop-e-preserved c).In-loop-e in
    let l = c.loop-e in
    let came = rw (c.sub_box.ensures.0, c.sub_box.ensures.1) at (c.line.ensures _ (long k)) in
    sub_boxes_step _ _ _ _ _ _ l.part l.bits l.from l.e l.invariant (exponent k) (whole k) _ (sized k)
    c.args.inverses.now.table.now c.args.inverses.now.serve (reached k) _ c.sub_box.ensures.2 _ _ came _ c.line.auto.part
    (ap is_some c.in_ok-line.was) c.bits_left-bits.ensures

pub returns : goal.returns
returns c =
    let l = c.loop-e in
    sub_boxes_done _ _ _ _ _ c.args.part.now l.part l.bits l.from l.e l.invariant (omega (arith, c.loop-e-test.false))
