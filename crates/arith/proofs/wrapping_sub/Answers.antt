-- The callee says that b added back gives a modulo 2^64. With `minus` unfolded the rest is arithmetic on numbers below 2^64.
use Rattle.std.proofs.Common.{arith}
use Rattle.meaning.specs.Differences.{minus}
use Rattle.arith.proofs.wrapping_sub.Goals as goal

pub returns : goal.returns
unfolding minus
returns c = omega arith
