-- The loop fills the row of one coordinate after the other.
use Rattle.std.specs.Prelude.{◌+◌, ◌*◌, refl}
use Rattle.theory.specs.Parts.{part}
use Rattle.weighted_poly_fit.specs.Entries.{fallen}
use Rattle.theory.specs.FilledRows.{rows_rule, rows_done}
use Rattle.theory.specs.FallingProducts.{products-left}
use Rattle.weighted_poly_fit.proofs.MatrixRows.{rows_at}
use Rattle.weighted_poly_fit.proofs.matrix.fill_products.Goals as goal

pub loop-x-preserved : goal.loop-x-preserved
loop-x-preserved c =
    let a = c.args in
    let l = c.loop-x in
    let from = l.x * a.size in
    rows_at
    (rows_rule l.invariant c.loop-x-test.true _ (fallen a.bitwidth l.x)
    (products-left _ l.x (part from (from + a.size) l.table) c.requires.1 c.falling_products.ensures.leaves) (λ e l. refl))

pub returns : goal.returns
returns c = rows_done c.loop-x.invariant c.loop-x-test.false
