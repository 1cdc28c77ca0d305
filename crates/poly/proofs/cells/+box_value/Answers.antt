use Rattle.std.proofs.Common.{refl, arith}
use Rattle.theory.specs.LastVariable.{length-others}
use Rattle.box_rows.specs.Walks.{walk_start, walk_left, walk_over, walk_next}
use Rattle.poly.proofs.BoxValues.{line-fits, line-value, others-fit, shaped_others}
use Rattle.poly.proofs.BoxValues.{summed_start, summed_next, summed_stop, summed_done}
use Rattle.poly.proofs.cells.+box_value.Goals as goal

pub line_value-requires : goal.line_value-requires
line_value-requires t c = line-fits c.args.degrees.now c.if-degrees-eq1.true c.requires.shaped c.requires.size_in_bounds

pub returns-then-degrees-eq1 : goal.returns-then-degrees-eq1
returns-then-degrees-eq1 t c =
    line-value c.args.size c.args.degrees.now c.args.coeffs.now c.args.products.now c.if-degrees-eq1.true c.requires.shaped c.line_value.ensures

pub loop-e-init : goal.loop-e-init
loop-e-init t c =
    let p = c.requires.shaped in
    (walk_start _ _ p.some p.whole, summed_start)

pub returns-then-falling-eq0 : goal.returns-then-falling-eq0
returns-then-falling-eq0 t c =
    let i = c.loop-e.invariant in
    summed_stop c.requires.shaped i.0 i.1 (walk_left i.0 (omega (arith, c.loop-e-test.true))) c.if-falling-eq0.true

pub box_value-inner-requires : goal.box_value-inner-requires
box_value-inner-requires t c =
    let p = c.requires.shaped in
    let w = c.loop-e.invariant.0 in (
      omega (arith, length-others c.args.degrees.now p.some, c.decreases, p.some),
      (
        shaped_others p w (walk_left w (omega (arith, c.loop-e-test.true))) refl c.if-degrees-eq1.false,
        others-fit p c.requires.size_in_bounds,
      ),
    )

pub loop-e-preserved : goal.loop-e-preserved
loop-e-preserved t c =
    let i = c.loop-e.invariant in (
      walk_next i.0 (walk_left i.0 (omega (arith, c.loop-e-test.true))),
      summed_next c.requires.shaped i.0 i.1 (walk_left i.0 (omega (arith, c.loop-e-test.true))) _ c.box_value-inner.ensures c.wrapping_mul-sum.ensures
          refl,
    )

pub returns : goal.returns
returns t c = summed_done c.requires.shaped c.loop-e.invariant.0 c.loop-e.invariant.1 (walk_over c.loop-e.invariant.0 (omega (arith, c.loop-e-test.false)))
