-- The loop goes up from index `pass`, two places a turn: before place i the pass is made, from i on not yet, for whatever coefficients f; the measure
-- is the places left. A place that is left over comes last. The pass ends below the highest index, which it does not change.
use Rattle.std.proofs.Common.{◌≡◌, ◌+◌, ◌*◌, ◌<◌, refl, mul-pos, arith, length-set, pow_pos}
use Rattle.lines.specs.NodeOrders.{open_start, open_step, open_done}
use Rattle.lines.specs.DivisionPasses.{difference_with_product}
use Rattle.lines.proofs.powers.undivide.Goals as goal

pub loop-i-init : goal.loop-i-init
loop-i-init c = (refl, omega arith, λ f r. open_start c.args.block.some c.requires.2 r)

pub loop-i-preserved : goal.loop-i-preserved
loop-i-preserved c =
    let i = c.loop-i.i in
    let number = difference_with_product _ c.args.pass _ _ (pow_pos 64) c.wrapping_mul.ensures c.wrapping_sub.ensures in
    let next = difference_with_product _ c.args.pass _ _ (pow_pos 64) c.wrapping_mul-in-loop-i.ensures c.wrapping_sub-in-loop-i.ensures in
    let two : i + 1 + 1 ≡ i + 2 = omega arith in (
      simp length-set c.loop-i.invariant.0,
      omega arith,
      λ f r.
          rw two at
          (open_step c.args.block.some c.requires.2 (omega arith) (omega arith)
          (open_step c.args.block.some c.requires.2 (omega arith) (omega arith) (c.loop-i.invariant.2 f r) _ number) _ next),
    )

pub returns-then-i-last : goal.returns-then-i-last
returns-then-i-last c =
    let room : 0 < c.args.block.stride * c.args.block.degree = mul-pos c.args.block.some (omega (arith, c.requires.0, c.requires.1)) in
    let number = difference_with_product _ c.args.pass _ _ (pow_pos 64) c.wrapping_mul-then-i-last.ensures c.wrapping_sub-then-i-last.ensures in
    λ f r.
    open_done c.args.block.some c.requires.2 (omega (arith, room))
    (open_step c.args.block.some c.requires.2 (omega arith) (omega (arith, room)) (c.loop-i.invariant.2 f r) _ number)

pub returns-else-i-last : goal.returns-else-i-last
returns-else-i-last c = λ f r. open_done c.args.block.some c.requires.2 (omega (arith, c.if-i-last.false, c.loop-i-test.false)) (c.loop-i.invariant.2 f r)
