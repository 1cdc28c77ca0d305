-- The loop over the total degrees.
use Rattle.std.proofs.Common.{arith}
use Rattle.weighted_poly_fit.proofs.ByDegrees.{degrees_start, degrees_room, degrees_next, degrees_done}
use Rattle.weighted_poly_fit.proofs.columns.enumerate_basis.Goals as goal

pub loop-degree-init : goal.loop-degree-init
loop-degree-init c = let p = c.requires in degrees_start p.current_len p.table_len

pub enumerate_basis_recurse-next-requires-clause-left_in_bounds : goal.enumerate_basis_recurse-next-requires-clause-left_in_bounds
enumerate_basis_recurse-next-requires-clause-left_in_bounds c = degrees_room c.loop-degree.invariant c.loop-degree-test.true

pub loop-degree-preserved : goal.loop-degree-preserved
loop-degree-preserved c =
    let k = c.enumerate_basis_recurse-next in
    degrees_next c.loop-degree.invariant c.loop-degree-test.true _ _ _ k.auto.current k.ensures

pub returns-2 : goal.returns-2
returns-2 c =
    let k = c.enumerate_basis_recurse-next in
    degrees_done (degrees_next c.loop-degree.invariant c.loop-degree-test.true _ _ _ k.auto.current k.ensures) (omega arith)
