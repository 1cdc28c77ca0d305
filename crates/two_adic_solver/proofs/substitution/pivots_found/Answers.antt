-- The chain's test of the whole list is the test of every place.
use Rattle.std.proofs.Common.{nat_lt, ◌∙◌, rules, tests}
use Rattle.std.proofs.lemmas.Iterator.{YieldsList-from_slice}
use Rattle.std.proofs.lemmas.Iterator.Search.{all_from_yields_List}
use Rattle.two_adic_solver.proofs.TestLaws.{every_list}
use Rattle.two_adic_solver.proofs.substitution.pivots_found.Goals as goal

pub returns : goal.returns
returns c =
    let a = c.args in
    let tested = all_from_yields_List (λ row. nat_lt row a.rows) _ _ c.all.result c.all.ensures.ran
    (YieldsList-from_slice a.pivots.now cc) (λ x b q k. search (rules, tests)) in
    tested ∙ every_list _ a.pivots.now
