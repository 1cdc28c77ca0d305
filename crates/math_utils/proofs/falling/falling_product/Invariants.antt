-- The loop has the product of the factors that were taken, none of which so far is zero modulo 2^w; so none is cut at 0. At a product of zero all that
-- follow are zero.
use Rattle.math_utils.proofs.FallingLoops.{Product}
use Rattle.math_utils.proofs.falling.falling_product.Given as goal

abbrev pub invariant-loop-taken : goal.invariant-loop-taken
invariant-loop-taken l = Product l.bitwidth l.x l.n l.mask l.product l.taken
