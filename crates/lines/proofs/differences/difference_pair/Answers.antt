-- The first return is never taken: no table is that long. The loop comes down: from place i on the numbers are two passes further, below it they are as
-- they were. The single pass does the lowest index.
use Rattle.std.proofs.Common.{◌^◌, refl, ◌∙◌, ap₂}
use Rattle.meaning.specs.Differences.{minus}
use Rattle.lines.proofs.PairPasses.{pair_step, pair_done}
use Rattle.lines.proofs.differences.difference_pair.Goals as goal

pub loop-i-preserved : goal.loop-i-preserved
loop-i-preserved c =
    pair_step _ _ _ c.loop-i.part c.loop-i.i c.loop-i.invariant c.requires.0 _ c.loop-i-test.true
    (c.wrapping_sub-in-loop-i-2.ensures ∙ ap₂ (minus (2 ^ 64)) c.wrapping_sub.ensures c.wrapping_sub-in-loop-i.ensures)

pub returns : goal.returns
returns c =
    pair_done _ _ _ c.loop-i.part c.loop-i.i c.loop-i.invariant c.requires.0 c.args.low refl c.loop-i-test.false _
    c.difference_pass.auto.part c.difference_pass.ensures
