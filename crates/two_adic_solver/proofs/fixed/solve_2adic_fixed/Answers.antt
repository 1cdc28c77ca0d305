-- Both equations are `solve_checked`'s; from them an accepted answer solves the system (`fixed_solves`).
use Rattle.two_adic_solver.proofs.SolvesLaws.{fixed_solves}
use Rattle.two_adic_solver.proofs.fixed.solve_2adic_fixed.Goals as goal

pub returns-clause-solves : goal.returns-clause-solves
returns-clause-solves c = let e = c.solve_checked.ensures in fixed_solves _ _ _ _ _ e.0 e.1
