-- The loop: the numbers before the index are cut, the others as they were. The mask leaves the remainder.
use Rattle.std.proofs.Common.{◌∙◌, ap₂, arith, le_refl}
use Rattle.std.specs.Prelude.{bit_and}
use Rattle.std.specs.Int.Bits.{and_mask}
use Rattle.theory.specs.Tables.{filled_step, filled_done}
use Rattle.tables.proofs.cut.Goals as goal

pub loop-entry-preserved : goal.loop-entry-preserved
loop-entry-preserved c =
    let l = c.loop-entry in
    filled_step _ _ l.table l.entry-index _ l.invariant (omega arith)
    (ap₂ bit_and (l.invariant.above l.entry-index (le_refl _)) c.bitmask-mask.ensures ∙ and_mask _ _)

pub returns : goal.returns
returns c =
    let l = c.loop-entry in
    filled_done _ _ l.table l.entry-index l.invariant (omega (arith, l.invariant.same))
