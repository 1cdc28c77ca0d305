-- The loop: `found` and `least` are the lowest of the first rows.
use Rattle.std.proofs.Common.{length}
use Rattle.two_adic_solver.specs.Rows.{height_of}
use Rattle.two_adic_solver.proofs.RowLaws.{Searched}
use Rattle.two_adic_solver.proofs.elimination.find_pivot.Given as goal

abbrev pub invariant-loop-row : goal.invariant-loop-row
invariant-loop-row g l =
    let m = g.S.System in
    let s = l.system in
    Searched (m.width s) (length (m.right s)) (height_of (m.width s) (m.columns s) (m.entries s) (m.used s) l.column) l.found l.least l.row
