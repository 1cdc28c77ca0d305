-- The loop: the first i differences pass and are now coefficients. `row-fails` closes the return at one that does not pass, `row_done` the end.
use Rattle.multivar_poly_recovery.proofs.Rows.{InRow, OfRow}
use Rattle.multivar_poly_recovery.proofs.extraction.Left.row.Given as goal

abbrev pub invariant-loop-i : goal.invariant-loop-i
invariant-loop-i l =
    let s = l.self in
    InRow (OfRow s.width s.bits s.inverse l.tables.row.now) s.width l.initial.part l.part l.i
