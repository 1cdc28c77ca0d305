-- The loop: the numbers before i have their pass, the others not yet, for whatever coefficients f; the factor is that of the next number.
use Rattle.std.proofs.Common.{◌≡◌, ◌*◌, ◌<◌, refl, le_refl, zero-lt-suc, arith, length-set, pow_pos}
use Rattle.lines.specs.NodeOrders.{open_start, open_done}
use Rattle.lines.specs.DivisionPasses.{sum_with_product}
use Rattle.moves.specs.NodeRows.{rows_start, rows_step, rows_open, added_start, added_near}
use Rattle.moves.proofs.MovePasses.{opening_at}
use Rattle.moves.proofs.FirstLines.{unit}
use Rattle.moves.proofs.first.move_line.Goals as goal

pub loop-i-init : goal.loop-i-init
loop-i-init c =
    let e : c.args.done ≡ 1 * c.args.done = unit _ in (
      c.requires.1,
      rows_start (pow_pos 64) e c.wrapping_sub-factor.ensures (omega arith),
      λ f r. opening_at e (open_start (zero-lt-suc 0) (unit _) r),
    )

pub loop-i-preserved : goal.loop-i-preserved
loop-i-preserved c =
    let l = c.loop-i in
    let h : l.i < 1 * c.args.lines.degree = omega (arith, c.requires.1) in
    let added =
    added_near (added_start _ 1 l.i l.factor 0 l.part) (le_refl _) (omega arith) _
    (sum_with_product _ l.factor _ _ c.wrapping_mul.ensures refl) in (
      simp length-set l.invariant.0,
      rows_step (pow_pos 64) l.invariant.1 h refl,
      λ f r. rows_open (pow_pos 64) l.invariant.1 (zero-lt-suc 0) (unit _) h (l.invariant.2 f r) added,
    )

pub returns : goal.returns
returns c = λ f r. open_done (zero-lt-suc 0) (unit _) (omega (arith, c.requires.1)) (c.loop-i.invariant.2 f r)
