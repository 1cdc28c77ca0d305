-- The loop: the rows before row i are filled, and the others are zero; the row before row i begins at `from`.
use Rattle.std.proofs.Common.{◌≡◌, ◌+◌, ◌*◌, ◌≤◌, ap, ◌∙◌, suc-mul, mul-le-mul, add-one, arith}
use Rattle.theory.specs.Tables.{at-tabulate-zero}
use Rattle.math_utils.specs.Kinds.{Factors}
use Rattle.math_utils.proofs.Entries.{row_fits, rows_start, rows_step, rows_done}
use Rattle.math_utils.proofs.stirling.fill.Goals as goal

pub loop-i-init : goal.loop-i-init
loop-i-init c =
    let p = c.requires in
    record { within = omega arith; before = omega arith; rows = rows_start c.args.kind c.args.bitwidth c.args.side _ _ c.clear.ensures p.2 p.3 p.4 p.0 }

pub loop-i-preserved : goal.loop-i-preserved
loop-i-preserved c =
    let a = c.args in
    let l = c.loop-i in
    let h : l.i + 1 ≤ a.side = omega arith in
    let square : a.side * a.side ≤ 65536 = mul-le-mul c.requires.1 c.requires.1 in
    let factors : Factors a.kind l.i c.first_factor-first.result c.factor_step-step.result =
    record { begins = c.first_factor-first.ensures; grows = c.factor_step-step.ensures l.i } in
    let row : (l.i + 1) * a.side ≡ l.i * a.side + a.side = ap (◌* a.side) (add-one _) ∙ suc-mul _ _ in
    record {
      within = omega (arith, row, l.invariant.before, row_fits a.side l.i (omega arith), square);
      before = omega (arith, row, l.invariant.before);
      rows = rows_step a.kind a.bitwidth a.side _ l.i (c.fill_row.ensures a.kind _ factors (at-tabulate-zero _) l.invariant.rows);
    }

pub returns : goal.returns
returns c =
    let a = c.args in
    rows_done a.kind a.bitwidth a.side c.loop-i.table c.loop-i.i _ c.loop-i.invariant.rows (omega arith) c.requires.2
