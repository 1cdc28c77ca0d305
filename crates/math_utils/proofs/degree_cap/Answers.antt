-- A width that does not fit is refused; for one that does the value is what `least_degree` finds.
use Rattle.std.proofs.Common.{sym, ◌∙◌}
use Rattle.theory.specs.Ranges.{width_high}
use Rattle.math_utils.proofs.degree_cap.Goals as goal

pub least_degree-requires : goal.least_degree-requires
least_degree-requires c = width_high _ ((sym c.width_fits.ensures ∙ c.if-not-width_fits.false))
