-- Both equations are those of `transform_basis` towards falling factorials, and the promise about values follows from them.
use Rattle.meaning.specs.Conversions.{falling_box}
use Rattle.demand3.proofs.BoxCalls.{to_falling_lem}
use Rattle.basis_transform.proofs.to_factorial_basis.Goals as goal

pub returns-clause-leaves : goal.returns-clause-leaves
unfolding falling_box
returns-clause-leaves c = c.transform_basis.ensures.leaves

pub returns-clause-converts : goal.returns-clause-converts
unfolding falling_box
returns-clause-converts c = to_falling_lem _ _ _ _ _ _ c.transform_basis.ensures.says c.transform_basis.ensures.leaves
