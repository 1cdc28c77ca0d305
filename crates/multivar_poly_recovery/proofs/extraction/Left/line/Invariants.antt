-- The loop: the first i differences pass and are now coefficients, and bits and mask are those of entry i.
use Rattle.box_rows.specs.Lines.{LineBits}
use Rattle.multivar_poly_recovery.proofs.Rows.{InRow, OfLine}
use Rattle.multivar_poly_recovery.proofs.extraction.Left.line.Given as goal

abbrev pub invariant-loop-i : goal.invariant-loop-i
invariant-loop-i l =
    let s = l.self in
    InRow (OfLine s.width s.bits s.inverse l.initial.part) s.width l.initial.part l.part l.i × LineBits s.bits l.i l.low.bits
