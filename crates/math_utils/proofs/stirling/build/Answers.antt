-- Two refusals in the order of the tests, the width and the length; the table stays. Past them `fill` leaves the entries of all cells, which are the table
-- of the kind (`table-entries`). The side is small, so that its square fits.
use Rattle.std.proofs.Common.{sym, ◌∙◌, arith}
use Rattle.theory.specs.Ranges.{width_pos, width_high}
use Rattle.math_utils.proofs.stirling.build.Goals as goal

pub fill-requires : goal.fill-requires
fill-requires c =
    let w = sym c.width_fits.ensures ∙ c.if-not-width_fits.false in
    (omega arith, omega (arith, c.ranges.max_degree), c.if-lent-side.false, width_pos _ w, width_high _ w)
