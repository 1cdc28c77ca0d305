-- Both equations are those of `recover_checked`, and demand 3 follows from them.
use Rattle.demand3.proofs.Decided.{tables_decide}
use Rattle.multivar_poly_recovery.proofs.recover_multivar_poly.Goals as goal

pub returns-clause-decides : goal.returns-clause-decides
returns-clause-decides c = let e = c.recover_checked.ensures in tables_decide _ _ _ _ _ _ e.says e.leaves
