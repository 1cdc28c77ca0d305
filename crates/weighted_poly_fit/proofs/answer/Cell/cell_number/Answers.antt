-- The loop adds one variable after the other, the last first.
use Rattle.std.proofs.Common.{arith}
use Rattle.weighted_poly_fit.proofs.ExponentLists.{within_cell, cell-start, exponent_there, cell_next, cell_small}
use Rattle.weighted_poly_fit.proofs.answer.Cell.cell_number.Goals as goal

pub loop-i-init : goal.loop-i-init
loop-i-init c = cell-start (within_cell c.args.self.now.within)

pub overflow_mul-number : goal.overflow_mul-number
overflow_mul-number c = omega (arith, cell_small c.loop-i.invariant c.loop-i-test.true, c.args.self.now.small)

pub bounds-self-i-in-loop-i : goal.bounds-self-i-in-loop-i
bounds-self-i-in-loop-i c = exponent_there c.loop-i.invariant c.loop-i-test.true

pub overflow_add-number-in-loop-i : goal.overflow_add-number-in-loop-i
overflow_add-number-in-loop-i c = omega (arith, cell_small c.loop-i.invariant c.loop-i-test.true, c.args.self.now.small)

pub loop-i-preserved : goal.loop-i-preserved
loop-i-preserved c = cell_next c.loop-i.invariant c.loop-i-test.true
