-- The loop fills the table.
use Rattle.std.specs.Prelude.{bit_and}
use Rattle.std.proofs.Common.{arith, ◌∙◌, ap}
use Rattle.meaning.specs.Tables.{at}
use Rattle.theory.specs.Words.{masked_low}
use Rattle.theory.specs.Tables.{filled_step, filled_done}
use Rattle.weighted_poly_fit.proofs.fit.Given.fill_right.Goals as goal

pub loop-i-preserved : goal.loop-i-preserved
loop-i-preserved c =
    let n = at c.args.self.now.targets.now c.loop-i.i in
    filled_step _ _ c.loop-i.right c.loop-i.i _ c.loop-i.invariant (omega arith)
    (ap (bit_and n) c.bitmask-mask.ensures ∙ masked_low n c.args.self.now.bitwidth c.args.self.now.shaped.high)

pub returns : goal.returns
returns c = filled_done _ _ c.loop-i.right c.loop-i.i c.loop-i.invariant (omega (arith, c.loop-i.invariant.same))
