-- The measure is the number of variables. The loop walks over the sub-boxes of the last variable.
use Rattle.std.specs.Prelude.{◌≡◌, ◌*◌, ◌-◌, ◌^◌, min, length}
use Rattle.box_rows.specs.Walks.{Walk}
use Rattle.weighted_poly_fit.specs.Entries.{column_entry, Columned}
use Rattle.weighted_poly_fit.proofs.matrix.Column.+fill.Given as goal

abbrev pub decreases-fill : goal.decreases-fill
decreases-fill l = length l.grid.now

abbrev pub invariant-loop-x : goal.invariant-loop-x
invariant-loop-x l =
    let k = l.self in
    Walk l.grid (length l.weights) l.rows l.x (l.x * l.rows)
    × Columned k.cols k.c (column_entry k.bitwidth l.value l.grid k.exps.now l.weights) l.initial.matrix l.matrix (l.x * l.rows)
    × (l.mask ≡ 2 ^ min k.bitwidth 64 - 1)
