-- The lengths are tested, then the fit is made.
use Rattle.std.proofs.Common.{sym, ◌∙◌, arith}
use Rattle.weighted_poly_fit.specs.Asked.{given_fit}
use Rattle.weighted_poly_fit.proofs.FitCalls.{exact}
use Rattle.weighted_poly_fit.proofs.fit.Given.fit_box.Goals as goal

pub fit_within-requires-2 : goal.fit_within-requires-2
fit_within-requires-2 c =
    let a = c.args in
    let e = exact (given_fit a.self.now a.matrix.now a.right.now a.out.now) a.self.now.counted (sym c.lengths_fit.ensures ∙ c.if-not-lengths_fit.false) in
    record { exact = e; enough = (e.columns_few, a.self.now.shaped.products_few, omega arith); small = (omega arith, omega arith, omega arith) }
