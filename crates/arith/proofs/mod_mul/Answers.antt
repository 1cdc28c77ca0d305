-- The product modulo 2^64 under the mask of the width is the product modulo 2^width, the width cut at 64 (`masked`).
use Rattle.std.proofs.Common.{◌∙◌, ap₂}
use Rattle.std.specs.Prelude.{bit_and}
use Rattle.theory.specs.Words.{masked}
use Rattle.arith.proofs.mod_mul.Goals as goal

pub returns : goal.returns
returns c = ap₂ bit_and c.wrapping_mul.ensures c.bitmask.ensures ∙ masked _ c.args.width
