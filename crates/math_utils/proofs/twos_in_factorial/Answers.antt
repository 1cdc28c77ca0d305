-- The twos in k! and the ones among the binary digits of k make k, so that the ones can be taken off and leave the twos.
use Rattle.std.proofs.Common.{arith}
use Rattle.theory.specs.Twos.{legendre}
use Rattle.math_utils.proofs.twos_in_factorial.Goals as goal

pub returns : goal.returns
returns c = omega (arith, legendre c.args.k)
