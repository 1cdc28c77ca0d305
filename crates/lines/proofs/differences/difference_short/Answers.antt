-- The loop: `low` is stride * (n + 1) once n passes are done; at the end of the block these are d or more, which is all.
use Rattle.lines.proofs.Passes.{passes-start, passes-step, passes_done}
use Rattle.lines.proofs.differences.difference_short.Goals as goal

pub loop-low-init : goal.loop-low-init
loop-low-init c = passes-start _ _ _

pub loop-low-preserved : goal.loop-low-preserved
loop-low-preserved c =
    passes-step _ _ _ c.loop-low.part c.loop-low.low c.loop-low.invariant _ c.difference_pass.ensures

pub returns : goal.returns
returns c =
    passes_done _ _ _ c.loop-low.part c.loop-low.low c.loop-low.invariant c.args.block.some c.requires c.loop-low-test.false
