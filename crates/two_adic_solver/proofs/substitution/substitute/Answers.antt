-- The loop, last column first: the columns from `column` on divide and have their values, those before still their pivot rows. A column that does not divide
-- closes the early return.
use Rattle.std.proofs.Common.{◌-◌, get_or-set_other, length-set, ne_of_lt}
use Rattle.answers.specs.Laws.{handed_on}
use Rattle.two_adic_solver.proofs.SubstitutionLaws.{substituting_start, substituting_step, substituting_fails, substituting_done}
use Rattle.two_adic_solver.proofs.substitution.substitute.Goals as goal

pub loop-column-init : goal.loop-column-init
loop-column-init g c = rw c.columns-column.ensures (substituting_start _ _ _ _ _ c.requires.sizes)

pub returns-in_err-answer-clause-substituted : goal.returns-in_err-answer-clause-substituted
returns-in_err-answer-clause-substituted g c =
    let l = c.loop-column in
    rw (handed_on _ c.from_residual.ensures.1)
    (substituting_fails _ _ _ _ _ l.answer _ l.column c.loop-column-test.true l.invariant (λ st h e. c.in_err-answer.ensures.solves st h e) l.answer)

pub loop-column-preserved : goal.loop-column-preserved
loop-column-preserved g c =
    let l = c.loop-column in
    substituting_step _ _ _ _ _ l.answer _ l.column c.loop-column-test.true l.invariant (length-set l.answer (l.column - 1) _)
    (λ j b. get_or-set_other l.answer (l.column - 1) j _ 0 (ne_of_lt b)) (λ st h e. c.in_ok-answer.ensures.solves st h e)

pub returns-clause-substituted : goal.returns-clause-substituted
returns-clause-substituted g c =
    let l = c.loop-column in
    substituting_done _ _ _ _ _ l.answer l.column l.invariant c.loop-column-test.false
