-- The conversions undo one another, modulo 2^width.
use Rattle.calls_together.proofs.RoundTrips.{falling-again}
use Rattle.calls_together.proofs.forms.back_and_there.Goals as goal

pub returns : goal.returns
returns c =
    let e = c.to_monomial_basis-first.ensures in
    let f = c.to_factorial_basis-second.ensures in
    falling-again _ _ _ _ _ _ _ _ _ e.says f.says e.leaves f.leaves
