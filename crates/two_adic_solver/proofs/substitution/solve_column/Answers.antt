-- Two returns: the power of two does not divide what is left, and the column fails, or it does, and the quotient times the inverse is put in.
use Rattle.std.proofs.Common.{sym, ◌∙◌, eq-eqb, eqb-true}
use Rattle.std.proofs.lemmas.Bool.{false≢true}
use Rattle.two_adic_solver.proofs.SubstitutionLaws.{solved_fails, solved_passes}
use Rattle.two_adic_solver.proofs.substitution.solve_column.Goals as goal

pub returns-then-not-divides-clause-solves : goal.returns-then-not-divides-clause-solves
returns-then-not-divides-clause-solves g c =
    let a = c.args in
    let q = c.requires.sizes in
    let twos = rw (c.width.ensures, c.entry.ensures) at c.new-pivot.ensures.entry.0 in
    λ st h e.
    solved_fails _ _ _ st _ _ h a.answer.now _ a.column q.2 q.1 e c.new-pivot.result.twos c.rest_of-rest.result twos c.rest_of-rest.ensures
    (λ z. absurd (false≢true (sym c.if-not-divides.true ∙ c.divides.ensures ∙ eq-eqb _ _ z))) _

pub returns-clause-solves : goal.returns-clause-solves
returns-clause-solves g c =
    let a = c.args in
    let q = c.requires.sizes in
    let p = c.new-pivot.ensures in
    let twos = rw (c.width.ensures, c.entry.ensures) at p.entry.0 in
    let inverse = rw (c.width.ensures, c.entry.ensures) at p.entry.1 in
    λ st h e.
    solved_passes _ _ _ st _ _ h a.answer.now _ a.column q.2 q.1 e c.new-pivot.result.twos c.rest_of-rest.result twos c.rest_of-rest.ensures
    (eqb-true _ _ (sym c.divides.ensures ∙ c.if-not-divides.false)) c.new-pivot.result.inverse _ inverse
    (rw (p.place.2, c.width.ensures) at c.multiplier.ensures)
