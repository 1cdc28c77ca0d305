-- The loop: `low` is n + 1 once n passes are done, and each turn makes two. At the end n is the degree d, or one more, which changes nothing; it stops
-- early where the last pass left only zeros.
use Rattle.std.proofs.Common.{◌≡◌, ◌+◌, ◌-◌, arith}
use Rattle.lines.proofs.Passes.{passes-start, passes_pair, passes_stop, passes_done}
use Rattle.lines.proofs.differences.difference_line.Goals as goal

pub loop-low-init : goal.loop-low-init
loop-low-init c = λ d. passes-start 1 d _

pub returns-then-nothing_left : goal.returns-then-nothing_left
returns-then-nothing_left c =
    let l = c.loop-low in
    let from : l.low + 2 - 1 ≡ l.low + 1 = omega arith in
    λ d whole.
    passes_stop 1 d _ _ _ (passes_pair 1 d _ l.part l.low (l.invariant d) _ c.difference_twice.ensures) (omega arith) (omega (arith, whole))
    (rw from (c.nothing_left.ensures c.if-nothing_left.true))

pub loop-low-preserved : goal.loop-low-preserved
loop-low-preserved c = λ d. passes_pair 1 d _ c.loop-low.part c.loop-low.low (c.loop-low.invariant d) _ c.difference_twice.ensures

pub returns : goal.returns
returns c =
    let l = c.loop-low in
    λ d whole. passes_done 1 d _ l.part l.low (l.invariant d) (omega arith) (omega (arith, whole)) (omega (arith, c.loop-low-test.false))

pub returns-else-nothing_left : goal.returns-else-nothing_left
returns-else-nothing_left c =
    let l = c.loop-low in
    λ d whole.
    passes_done 1 d _ c.difference_twice.new.part (l.low + 2) (passes_pair 1 d _ l.part l.low (l.invariant d) _ c.difference_twice.ensures)
    (omega arith) (omega (arith, whole)) (omega arith)
