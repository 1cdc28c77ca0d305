-- The loop: the lines before that of place i have the product added; the measure is the places left.
use Rattle.std.proofs.Common.{refl, inl, arith, length-set, rules}
use Rattle.moves.specs.NodeLines.{numbers_next, numbers_done}
use Rattle.lines.specs.DivisionPasses.{sum_with_product}
use Rattle.moves.proofs.first.add_next.Goals as goal

pub loop-i-preserved : goal.loop-i-preserved
loop-i-preserved c = (
  simp length-set (omega arith),
  numbers_next c.loop-i.invariant.1 _ refl (search rules)
      (sum_with_product _ c.args.factor _ _ c.wrapping_mul.ensures refl),
)

pub returns : goal.returns
returns c = numbers_done c.loop-i.invariant.1 1 (omega (arith, c.requires.0)) (omega arith) (omega arith) (inl refl)
