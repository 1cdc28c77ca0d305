-- The solver's answer says whether there is one.
use Rattle.weighted_poly_fit.proofs.FitAnswers.{concluded, refused_none}
use Rattle.weighted_poly_fit.proofs.systems.solve.Goals as goal

pub returns-clause-refusal : goal.returns-clause-refusal
returns-clause-refusal c =
    let a = c.args in
    refused_none a.bitwidth a.matrix.now a.right.now a.values.now c.requires c.solve_2adic.result c.solve_2adic.ensures.says

pub returns-clause-concluded : goal.returns-clause-concluded
returns-clause-concluded c =
    let a = c.args in
    concluded a.bitwidth a.matrix.now a.right.now a.values.now c.requires c.solve_2adic.result c.solve_2adic.ensures.says _ c.solve_2adic.ensures.answer
