-- The loop, last column first: the columns from `column` on divide and have their values, those before still their pivot rows.
use Rattle.two_adic_solver.proofs.SubstitutionLaws.{Substituting}
use Rattle.two_adic_solver.proofs.substitution.substitute.Given as goal

abbrev pub invariant-loop-column : goal.invariant-loop-column
invariant-loop-column g l =
    let m = g.S.System in
    let s = l.system in
    Substituting (m.width s) (m.columns s) l.initial.answer (m.entries s) (m.right s) l.answer l.column
