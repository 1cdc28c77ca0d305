-- Both recoveries keep their promise, so that their forms have the values of the one polynomial.
use Rattle.std.proofs.Math.ListN.{length-replicate}
use Rattle.calls_together.proofs.Compared.{recoveries_follow}
use Rattle.calls_together.proofs.comparisons.recover_twice.Goals as goal

pub returns : goal.returns
returns c =
    recoveries_follow (length-replicate _ _) (length-replicate _ _) c.recover_multivar_poly-first.ensures.decides c.recover_multivar_poly-second.ensures.decides
    c.same-same.ensures.compares
