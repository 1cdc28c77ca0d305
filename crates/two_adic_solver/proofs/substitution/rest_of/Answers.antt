-- The pivot row behind the column is lent with the values behind it; their product, modulo 2^64, is taken off the right side and cut to the width.
use Rattle.two_adic_solver.proofs.SubstitutionLaws.{rest_computed}
use Rattle.two_adic_solver.proofs.substitution.rest_of.Goals as goal

pub returns : goal.returns
returns g c =
    let a = c.args in
    let p = c.requires in
    let laws = g.met.S.System in
    rest_computed _ _ _ _ _ a.answer.now a.row a.column c.dot-known.result _ (laws.whole _)
    p.2 p.1 p.0 (rw c.width.ensures at c.width.result.fits) (rw (c.behind.ensures, p.0) at c.dot-known.ensures)
    (rw (c.right.ensures, c.width.ensures) at c.mod_sub.ensures)
