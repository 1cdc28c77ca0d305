-- The loop: the first i differences pass and are now coefficients. `row-fails` closes the return at one that does not pass, `row_done` the end.
use Rattle.std.proofs.Common.{ℕ, ◌<◌, ◌≤◌, List, length, refl, arith}
use Rattle.multivar_poly_recovery.proofs.Rows.{OfRow, Right, right_row, row_step, row-fails, row_done}
use Rattle.multivar_poly_recovery.proofs.Servings.{laid_mask}
use Rattle.multivar_poly_recovery.proofs.extraction.Left.row.Goals as goal
use Rattle.multivar_poly_recovery.proofs.extraction.Left.row.Goals.{After-coefficient}

below : (c : After-coefficient) → c.loop-i.i < length c.loop-i.part
below c = omega (arith, c.loop-i-test.true, c.requires, c.loop-i.invariant.same)

-- bits and inverse are those of cell i
right : (c : After-coefficient) → let s = c.args.self in (ds hs : List ℕ) → OfRow s.width s.bits s.inverse c.args.tables.now.row.now ds hs
    → Right s.width ds hs c.loop-i.i c.low.result.bits c.wrapping_mul-unit.result
right c ds hs r =
    let s = c.args.self in
    let k = c.args.tables.now in
    right_row _ _ _ _ _ _ ds hs _ _ _ r (omega (arith, c.loop-i-test.true, c.requires)) (omega (arith, s.few, s.high)) k.laid k.inverts
    c.low.ensures.counted c.wrapping_mul-unit.ensures

pub low-requires : goal.low-requires
low-requires c =
    let k = c.args.tables.now in
    laid_mask _ k.masks.now k.laid c.loop-i.i (omega (arith, c.loop-i-test.true, c.requires))

pub returns-in_err-x : goal.returns-in_err-x
returns-in_err-x c hs bits unit =
    let l = c.loop-i in
    let k = (goal.at.returns-in_err-x c).After-coefficient in
    rw c.from_residual.ensures
    (row-fails _ _ _ l.part l.i _ _ l.invariant (below k) c.args.self.high (right k) _ c.coefficient.ensures c.in_err-x.was _ _ hs
    (record { one = refl; handed = record { bits = bits; unit = unit } }))

pub loop-i-preserved : goal.loop-i-preserved
loop-i-preserved c =
    let l = c.loop-i in
    let k = (goal.at.loop-i-preserved c).After-coefficient in
    row_step _ _ _ l.part l.i _ _ l.invariant (below k) c.args.self.high (right k) _ c.coefficient.ensures _ c.in_ok-x.was

pub returns : goal.returns
returns c hs bits unit =
    let l = c.loop-i in
    let all : length l.part ≤ l.i = omega (arith, c.loop-i-test.false, l.invariant.same) in
    row_done _ _ _ l.part l.i l.invariant all _ hs (record { one = refl; handed = record { bits = bits; unit = unit } }) c.requires
