-- The factor of the first kind stays; that of the second is the column.
use Rattle.math_utils.proofs.Entries.{factor_same}
use Rattle.math_utils.proofs.stirling.Kind.factor_step.Goals as goal

pub returns-in-First : goal.returns-in-First
returns-in-First c i j = cc (factor_same i)
