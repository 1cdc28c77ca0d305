-- The three parts of success in order: a column without a pivot, an unused row with a right side that is not 0, then what back-substitution says.
use Rattle.std.proofs.Common.{length, sym, ap, ◌∙◌}
use Rattle.two_adic_solver.proofs.SolverLaws.{concluded_pivots, concluded_right, concluded, ended_low}
use Rattle.two_adic_solver.proofs.solution.conclude.Goals as goal

pub returns-then-not-pivots_found-clause-concluded : goal.returns-then-not-pivots_found-clause-concluded
returns-then-not-pivots_found-clause-concluded g c =
    let all = rw (c.requires.sizes, ap length c.right.ensures) at c.pivots_found.ensures in
    λ st h. concluded_pivots _ _ _ _ _ _ _ st h _ (sym all ∙ c.if-not-pivots_found.true)

pub returns-then-not-rights_vanish-clause-concluded : goal.returns-then-not-rights_vanish-clause-concluded
returns-then-not-rights_vanish-clause-concluded g c =
    let rest = rw (c.right-2.ensures, c.used.ensures) at c.rights_vanish.ensures in
    λ st h. concluded_right _ _ _ _ _ _ _ st h _ (sym rest ∙ c.if-not-rights_vanish.true)

pub substitute-requires-clause-by_index : goal.substitute-requires-clause-by_index
substitute-requires-clause-by_index g c =
    let all = rw (c.requires.sizes, ap length c.right.ensures) at c.pivots_found.ensures in
    ended_low _ _ _ _ _ _ _ c.requires.ended (sym c.if-not-pivots_found.false ∙ all)

pub returns-clause-concluded : goal.returns-clause-concluded
returns-clause-concluded g c =
    let all = rw (c.requires.sizes, ap length c.right.ensures) at c.pivots_found.ensures in
    let rest = rw (c.right-2.ensures, c.used.ensures) at c.rights_vanish.ensures in
    λ st h.
    concluded _ _ _ _ _ _ _ st h _ _ (sym all ∙ c.if-not-pivots_found.false) (sym rest ∙ c.if-not-rights_vanish.false)
    (c.substitute.ensures.substituted st h.shows h.rows_eq)
