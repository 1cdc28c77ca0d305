-- The halves are below 2^32, so that their products are exact; added up modulo 2^64, the cross products times 2^32, they give the product
-- (`product_by_halves`). The product of the high halves counts 2^64 times and drops out.
use Rattle.theory.specs.Words.{product_by_halves}
use Rattle.arith.proofs.wrapping_mul.Goals as goal

pub returns : goal.returns
returns c = cc (product_by_halves c.args.a c.args.b)
