-- The loop comes down: from place i on the line is two passes further, for whatever coefficients f; the measure is i. It ends above index `pass`, which
-- only the first of the two passes reaches.
use Rattle.std.proofs.Common.{◌≡◌, suc, ◌-◌, length, refl, arith, length-set}
use Rattle.lines.specs.DivisionPasses.{sum_of_product, sum_with_product}
use Rattle.lines.proofs.LinePasses.{both-start, both-step, both_done}
use Rattle.lines.proofs.falling.divide_twice.Goals as goal

pub loop-i-init : goal.loop-i-init
loop-i-init c = (
  refl,
  omega arith,
  omega arith,
  λ d f whole r. let last : length c.args.part.now - 1 ≡ d = omega (arith, whole) in rw last (both-start whole r),
)

pub loop-i-preserved : goal.loop-i-preserved
loop-i-preserved c =
    let k = c.args.pass in
    let place : c.loop-i.i ≡ suc (c.loop-i.i - 1) = omega arith in (
      simp length-set c.loop-i.invariant.0,
      omega arith,
      simp length-set (omega arith),
      λ d f whole r. both-step whole (rw place at (c.loop-i.invariant.3 d f whole r)) (omega arith) (omega arith) _ _
          (sum_with_product _ k _ _ c.wrapping_mul.ensures refl) (sum_of_product _ k _ _ c.wrapping_mul-in-loop-i.ensures refl),
    )

pub returns : goal.returns
returns c =
    let k = c.args.pass in
    let place : c.loop-i.i ≡ suc k = omega (arith, c.loop-i-test.false) in
    λ d f whole r. both_done whole (rw place at (c.loop-i.invariant.3 d f whole r)) (omega arith) _ (sum_with_product _ k _ _ c.wrapping_mul-2.ensures refl)
