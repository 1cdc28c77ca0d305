-- The tests before entry i pass, and the mask is that of entry i.
use Rattle.std.proofs.Common.{length}
use Rattle.theory.specs.Every.{Passed}
use Rattle.box_rows.specs.Lines.{LineMask}
use Rattle.sameness.proofs.WalkTurns.{line_match}
use Rattle.sameness.proofs.walk.Part.matches_line.Given as goal

abbrev pub invariant-loop-i : goal.invariant-loop-i
invariant-loop-i l =
    let p = l.self in
    Passed (line_match p.bits p.coeffs.now l.partner.limit l.partner.step l.other p.place) (length p.coeffs.now) l.i × LineMask p.bits l.i l.mask
