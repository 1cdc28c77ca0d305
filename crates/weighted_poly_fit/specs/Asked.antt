-- The fit that the parts are given, with its scratch tables and its output.
use Rattle.std.specs.Prelude.{List, ℕ}
use Rattle.meaning.specs.Fit.{Fit}
use Rattle.weighted_poly_fit.specs.Fitting.{fit_with_of}
use Rattle.weighted_poly_fit.specs.declared.fit.Given.{Given}

abbrev pub given_fit : Given → List ℕ → List ℕ → List ℕ → Fit
given_fit g matrix right out = fit_with_of g.bitwidth g.degrees.now g.grid.now g.most g.weights.now g.targets.now matrix right out
