-- A bad width is the bare solver's 3 (`fixed_width`). Else the arrays are four by four, and what `solve` ends in is the bare solver's answer.
use Rattle.std.proofs.Common.{sym, ◌∙◌, arith}
use Rattle.theory.specs.Ranges.{width_high}
use Rattle.answers.specs.Laws.{code-suc, handed_on}
use Rattle.two_adic_solver.proofs.FixedCalls.{square_good, length_good, fixed_width, fixed_solved, fixed_refused}
use Rattle.two_adic_solver.proofs.fixed.solve_checked.Goals as goal

pub returns-then-not-width_fits : goal.returns-then-not-width_fits
returns-then-not-width_fits c = fixed_width _ _ _ (sym c.width_fits.ensures ∙ c.if-not-width_fits.true)

pub invariant_of-four : goal.invariant_of-four
invariant_of-four c = record { fits = width_high _ (sym c.if-not-width_fits.ensures) }

pub returns-in_err-solve : goal.returns-in_err-solve
returns-in_err-solve c =
    rw (handed_on _ c.from_residual.ensures.1)
    (fixed_refused _ c.args.matrix c.args.right (square_good _ _ c.well_formed.0) (length_good c.args.right _ c.well_formed.1.0)
    (sym c.if-not-width_fits.ensures) _ _ _ _ (rw c.in_err-solve.was at c.solve.ensures.finished) (λ e. omega (arith, code-suc c.in_err-solve.field-0.0, e)))

pub returns : goal.returns
returns c =
    fixed_solved _ c.args.matrix c.args.right (square_good _ _ c.well_formed.0) (length_good c.args.right _ c.well_formed.1.0)
    (sym c.if-not-width_fits.ensures) _ _ _ _ (rw c.in_ok-solve.was at c.solve.ensures.finished)
