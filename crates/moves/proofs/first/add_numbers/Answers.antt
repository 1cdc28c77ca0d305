-- The loop: the lines before that of place i have the products added; the measure is the places left.
use Rattle.std.proofs.Common.{refl, inr, arith, length-set, rules}
use Rattle.moves.specs.NodeLines.{numbers-step, numbers_done}
use Rattle.moves.proofs.MovePasses.{sum_with_products}
use Rattle.moves.proofs.first.add_numbers.Goals as goal

pub loop-i-preserved : goal.loop-i-preserved
loop-i-preserved c =
    let a = c.args in (
      simp length-set (omega arith),
      numbers-step c.loop-i.invariant.1 _ (search rules)
          (sum_with_products _ a.near a.far _ _ _ c.wrapping_mul.ensures c.wrapping_mul-in-loop-i.ensures refl
          refl),
    )

pub returns : goal.returns
returns c =
    let low = c.requires.0 in
    numbers_done c.loop-i.invariant.1 2 (omega (arith, low)) (omega arith) (omega arith) (inr (omega (arith, low)))
