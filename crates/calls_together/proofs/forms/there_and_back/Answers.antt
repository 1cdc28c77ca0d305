-- The conversions undo one another, modulo 2^width.
use Rattle.calls_together.proofs.RoundTrips.{powers_again}
use Rattle.calls_together.proofs.forms.there_and_back.Goals as goal

pub returns : goal.returns
returns c =
    let e = c.to_factorial_basis-first.ensures in
    let f = c.to_monomial_basis-second.ensures in
    powers_again _ _ _ _ _ _ _ _ _ e.says f.says e.leaves f.leaves
