-- The loop goes down, two places a turn: from place i on the pass is made, below i not yet, for whatever coefficients f the block had at first; the
-- measure is i. A place that is left over comes last. The pass ends at index `pass`, below which it changes nothing.
use Rattle.std.proofs.Common.{◌≡◌, ◌-◌, ◌*◌, length, refl, arith, length-set}
use Rattle.lines.specs.NodePasses.{pass_start, pass_step, pass_done}
use Rattle.lines.specs.DivisionPasses.{sum_with_product}
use Rattle.lines.proofs.falling.divide.Goals as goal

pub loop-i-init : goal.loop-i-init
loop-i-init c =
    let k = c.args in
    let e : length k.part.now - k.block.stride ≡ k.block.stride * k.block.degree = omega arith in
    (refl, omega arith, λ f r. rw e (pass_start c.args.block.some c.requires.2 r))

pub loop-i-preserved : goal.loop-i-preserved
loop-i-preserved c =
    let number = sum_with_product _ c.args.pass _ _ c.wrapping_mul.ensures refl in
    let next = sum_with_product _ c.args.pass _ _ c.wrapping_mul-in-loop-i.ensures refl in (
      simp length-set c.loop-i.invariant.0,
      omega arith,
      λ f r.
          pass_step c.args.block.some c.requires.2 (omega arith) (omega arith)
          (pass_step c.args.block.some c.requires.2 (omega arith) (omega arith) (c.loop-i.invariant.2 f r) _ number) _ next,
    )

pub returns-then-end-i : goal.returns-then-end-i
returns-then-end-i c =
    let number = sum_with_product _ c.args.pass _ _ c.wrapping_mul-then-end-i.ensures refl in
    λ f r.
    pass_done c.args.block.some c.requires.2 (omega arith)
    (pass_step c.args.block.some c.requires.2 (omega arith) (omega arith) (c.loop-i.invariant.2 f r) _ number)

pub returns-else-end-i : goal.returns-else-end-i
returns-else-end-i c = λ f r. pass_done c.args.block.some c.requires.2 (omega arith) (c.loop-i.invariant.2 f r)
