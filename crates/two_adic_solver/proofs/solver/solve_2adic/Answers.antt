-- The equations are `solve_checked`'s; from the first and the last of them an accepted answer solves the system (`answer-solves`).
use Rattle.two_adic_solver.proofs.SolvesLaws.{answer-solves}
use Rattle.two_adic_solver.proofs.solver.solve_2adic.Goals as goal

pub returns-clause-solves : goal.returns-clause-solves
returns-clause-solves c = let e = c.solve_checked.ensures in answer-solves _ _ _ _ _ _ _ e.0 e.3
