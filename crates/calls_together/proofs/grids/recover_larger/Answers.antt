-- Both calls keep their promise, and a polynomial with the values of the larger grid has those of the smaller one.
use Rattle.demand3.proofs.Consequences.{larger_refused}
use Rattle.calls_together.proofs.grids.recover_larger.Goals as goal

pub returns : goal.returns
returns c = λ contains. larger_refused contains c.recover_multivar_poly-first.ensures.decides c.recover_multivar_poly-second.ensures.decides
