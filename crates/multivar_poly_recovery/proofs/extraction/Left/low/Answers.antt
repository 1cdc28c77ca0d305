-- The mask with fewer ones (`mask-over`).
use Rattle.std.proofs.Common.{◌≤◌, arith, le_refl}
use Rattle.multivar_poly_recovery.proofs.Cells.{mask-over}
use Rattle.multivar_poly_recovery.proofs.extraction.Left.low.Goals as goal

pub of-requires-2 : goal.of-requires-2
of-requires-2 c = let s = c.args.self in let small : s.bits ≤ 64 = omega (arith, s.few, s.high) in mask-over 64 s.bits _ small small c.requires

pub returns-clause-few : goal.returns-clause-few
returns-clause-few c =
    let s = c.args.self in
    let m = mask-over s.bits s.bits _ (le_refl _) (omega (arith, s.few, s.high)) c.requires in
    omega (arith, c.of-2.ensures m.bits (omega (arith, m.few, s.few, s.high)) m.ones, m.few)
