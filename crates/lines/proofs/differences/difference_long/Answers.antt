-- The loop: `low` is stride * (n + 1) once n passes are done, and each turn makes two; at the end of the block these are d
-- or more, which is all. It stops early where the last pass left only zeros.
use Rattle.std.proofs.Common.{◌≡◌, ◌+◌, ◌-◌, arith}
use Rattle.lines.proofs.Passes.{passes-start, passes_pair, passes_stop, passes_done}
use Rattle.lines.proofs.differences.difference_long.Goals as goal

pub loop-low-init : goal.loop-low-init
loop-low-init c = passes-start _ _ _

pub returns-then-nothing_left : goal.returns-then-nothing_left
returns-then-nothing_left c =
    let b = c.args.block in
    let l = c.loop-low in
    let from : l.low + (b.stride + b.stride) - b.stride ≡ l.low + b.stride = omega arith in
    passes_stop _ _ _ c.difference_pair.new.part _ (passes_pair _ _ _ l.part l.low l.invariant _ c.difference_pair.ensures) b.some c.requires
    (rw from (c.nothing_left.ensures c.if-nothing_left.true))

pub loop-low-preserved : goal.loop-low-preserved
loop-low-preserved c = passes_pair _ _ _ c.loop-low.part c.loop-low.low c.loop-low.invariant _ c.difference_pair.ensures

pub returns : goal.returns
returns c =
    let l = c.loop-low in
    passes_done _ _ _ l.part l.low l.invariant c.args.block.some c.requires (omega (arith, c.loop-low-test.false))

pub returns-else-nothing_left : goal.returns-else-nothing_left
returns-else-nothing_left c =
    let b = c.args.block in
    let l = c.loop-low in
    passes_done _ _ _ c.difference_pair.new.part (l.low + (b.stride + b.stride))
    (passes_pair _ _ _ l.part l.low l.invariant _ c.difference_pair.ensures) b.some c.requires (omega arith)
