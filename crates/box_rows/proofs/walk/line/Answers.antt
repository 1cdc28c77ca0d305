-- The loop: the first i entries are done, and the mask is that of entry i.
use Rattle.std.proofs.Common.{◌-◌, arith}
use Rattle.meaning.specs.Factorials.{factorial, twos}
use Rattle.box_rows.specs.Lines.{line-start, line_next}
use Rattle.box_rows.proofs.Turns.{walked_none, walked_cell}
use Rattle.box_rows.proofs.walk.line.Goals as goal

pub loop-i-init : goal.loop-i-init
loop-i-init g c = (walked_none _ _ _, line-start _ _ c.requires.few c.bitmask-mask.ensures)

pub loop-i-preserved : goal.loop-i-preserved
loop-i-preserved g c =
    let l = c.loop-i in (
      walked_cell l.found _ l.invariant.0 (c.cell-found.ensures (c.args.bits - twos (factorial l.i)) (omega (arith, c.requires.few)) l.invariant.1),
      line_next c.args.bits l.i _ _ l.invariant.1 c.twos_in.ensures.twos,
    )
