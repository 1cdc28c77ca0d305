-- The number whose remainder a difference is depends on the modulus, so that the mask needs a law of its own:
-- the low bits of the difference modulo 2^64 are the difference modulo 2^width (`minus_masked`).
use Rattle.std.proofs.Common.{◌∙◌, ap₂}
use Rattle.std.specs.Prelude.{bit_and}
use Rattle.theory.specs.Words.{minus_masked}
use Rattle.arith.proofs.mod_sub.Goals as goal

pub returns : goal.returns
returns c = ap₂ bit_and c.wrapping_sub.ensures c.bitmask.ensures ∙ minus_masked c.args.a c.args.b c.args.width
