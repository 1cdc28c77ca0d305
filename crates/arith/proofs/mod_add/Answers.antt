-- The sum modulo 2^64 under the mask of the width is the sum modulo 2^width, the width cut at 64 (`masked`).
use Rattle.std.proofs.Common.{◌∙◌, ap}
use Rattle.std.specs.Prelude.{bit_and}
use Rattle.theory.specs.Words.{masked}
use Rattle.arith.proofs.mod_add.Goals as goal

pub returns : goal.returns
returns c = ap (bit_and _) c.bitmask.ensures ∙ masked _ c.args.width
