-- Both equations are those of `transform_basis` towards powers, and the promise about values follows from them.
use Rattle.meaning.specs.Conversions.{power_box}
use Rattle.demand3.proofs.BoxCalls.{to_powers_lem}
use Rattle.basis_transform.proofs.to_monomial_basis.Goals as goal

pub returns-clause-leaves : goal.returns-clause-leaves
unfolding power_box
returns-clause-leaves c = c.transform_basis.ensures.leaves

pub returns-clause-converts : goal.returns-clause-converts
unfolding power_box
returns-clause-converts c = to_powers_lem _ _ _ _ _ _ c.transform_basis.ensures.says c.transform_basis.ensures.leaves
