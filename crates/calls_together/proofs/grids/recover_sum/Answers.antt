-- Each call keeps its promise; the sum's conditions are those of the first grid, with the lengths that are asked.
use Rattle.calls_together.proofs.Together.{sum-follows}
use Rattle.calls_together.proofs.grids.recover_sum.Goals as goal

pub returns : goal.returns
returns c =
    sum-follows c.args.s.now c.recover_multivar_poly-first.ensures.decides c.recover_multivar_poly-second.ensures.decides
    c.recover_multivar_poly-whole.ensures.decides c.sum-sum.ensures.sums
