-- The loop of `falling_product`, whose products so far stand in the table; at a product of zero the rest of the table is zero.
use Rattle.std.proofs.Common.{◌+◌, ◌%◌, ◌^◌}
use Rattle.meaning.specs.Factorials.{falling}
use Rattle.theory.specs.Tables.{Filled}
use Rattle.math_utils.proofs.FallingLoops.{Product}
use Rattle.math_utils.proofs.falling.falling_products.Given as goal

abbrev pub invariant-loop-taken : goal.invariant-loop-taken
invariant-loop-taken l =
    Product l.bitwidth l.x l.last l.mask l.product l.taken × Filled (λ k. falling l.x k % 2 ^ l.bitwidth) l.initial.lent l.lent (l.taken + 1)
