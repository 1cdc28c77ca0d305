-- The equations are those of the inner call, and what holds of an accepted fit follows from them.
use Rattle.weighted_poly_fit.specs.FitsLaws.{fits_of_call}
use Rattle.weighted_poly_fit.proofs.fit.recover_weighted_poly.Goals as goal

pub returns-clause-fits : goal.returns-clause-fits
returns-clause-fits c =
    let e = c.weighted_fit.ensures in
    fits_of_call _ _ _ _ _ _ _ _ _ _ e.0 e.1.0
