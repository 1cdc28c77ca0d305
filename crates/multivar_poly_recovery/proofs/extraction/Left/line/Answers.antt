-- The loop: the first i differences pass and are now coefficients, and bits and mask are those of entry i.
use Rattle.std.proofs.Common.{ℕ, ◌<◌, ◌≤◌, List, length, refl, ◌∙◌, arith}
use Rattle.box_rows.specs.Lines.{line_full, line_bits}
use Rattle.multivar_poly_recovery.proofs.Rows.{OfLine, Right, right_line, row_start, row_step, row-fails, row_done, line-cells}
use Rattle.multivar_poly_recovery.proofs.extraction.Left.line.Goals as goal
use Rattle.multivar_poly_recovery.proofs.extraction.Left.line.Goals.{After-coefficient}

below : (c : After-coefficient) → c.loop-i.i < length c.loop-i.part
below c = omega (arith, c.loop-i-test.true, c.loop-i.invariant.0.same)

-- bits and inverse are those of entry i
right : (c : After-coefficient) → let s = c.args.self in (ds hs : List ℕ) → OfLine s.width s.bits s.inverse c.args.part.now ds hs
    → Right s.width ds hs c.loop-i.i c.loop-i.low.bits c.wrapping_mul-unit.result
right c ds hs r =
    right_line _ _ _ _ _ ds hs _ _ _ r (omega (arith, c.loop-i-test.true)) c.requires c.args.inverses.now.serve c.loop-i.invariant.1 c.wrapping_mul-unit.ensures

pub loop-i-init : goal.loop-i-init
loop-i-init c = (row_start _ _ _, c.all-low.ensures ∙ line_full c.args.self.bits)

pub returns-in_err-x : goal.returns-in_err-x
returns-in_err-x c d long hs bits unit =
    let l = c.loop-i in
    let k = (goal.at.returns-in_err-x c).After-coefficient in
    rw c.from_residual.ensures
    (row-fails _ _ _ l.part l.i _ _ l.invariant.0 (below k) c.args.self.high (right k) _ c.coefficient.ensures c.in_err-x.was _ _ hs
    (record { degree = d; one = refl; long = long; handed = record { bits = bits; unit = unit } }))

pub loop-i-preserved : goal.loop-i-preserved
loop-i-preserved c =
    let l = c.loop-i in
    let k = (goal.at.loop-i-preserved c).After-coefficient in (
      row_step _ _ _ l.part l.i _ _ l.invariant.0 (below k) c.args.self.high (right k) _ c.coefficient.ensures _ c.in_ok-x.was,
      line_bits _ l.i l.low.bits _ l.invariant.1 c.without-low.ensures,
    )

pub returns : goal.returns
returns c d long hs bits unit =
    let l = c.loop-i in
    let all : length l.part ≤ l.i = omega (arith, c.loop-i-test.false, l.invariant.0.same) in
    row_done _ _ _ l.part l.i l.invariant.0 all _ hs
    (record { degree = d; one = refl; long = long; handed = record { bits = bits; unit = unit } }) (long ∙ line-cells d)
