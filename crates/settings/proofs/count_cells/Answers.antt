-- The loop keeps: the count times the cells of the variables that are left is the cells of the box, and the count is at most one above the limit.
use Rattle.std.specs.Prelude.{◌+◌}
use Rattle.std.proofs.Common.{◌∙◌, sym, arith}
use Rattle.std.proofs.Math.Nat.{min-eq_left, min-eq_right}
use Rattle.theory.specs.CountedCells.{counted_next, counted-end, counted-le}
use Rattle.settings.proofs.count_cells.Goals as goal

pub returns-then-most-count : goal.returns-then-most-count
returns-then-most-count c =
    let k = c.args in
    let next = counted_next k.degrees.now c.loop-degree.count c.loop-degree.degree-index c.loop-degree.invariant.0 c.loop-degree-test.true in
    sym (min-eq_right (omega (arith, c.if-most-count.true, counted-le k.degrees.now _ (c.loop-degree.degree-index + 1) next)))

pub loop-degree-preserved : goal.loop-degree-preserved
loop-degree-preserved c =
    let k = c.args in
    (counted_next k.degrees.now c.loop-degree.count c.loop-degree.degree-index c.loop-degree.invariant.0 c.loop-degree-test.true, omega (arith, c.if-most-count.false))

pub returns : goal.returns
returns c =
    let k = c.args in
    let all = counted-end k.degrees.now c.loop-degree.count c.loop-degree.degree-index c.loop-degree.invariant.0 c.loop-degree-test.false in
    sym (min-eq_left (omega (arith, all)) ∙ all)
