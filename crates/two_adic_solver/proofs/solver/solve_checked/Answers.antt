-- Each return names the first cause, by the tests that were passed before it: 3, 8 or 9. After the last test the system fits, and `fitting_call` reads
-- number and tables off what `solve_fitting` promises.
use Rattle.std.proofs.Common.{◌≡◌, ◌≤◌, length, sym, ◌∙◌, arith, div-le_self}
use Rattle.theory.specs.Ranges.{width_high}
use Rattle.two_adic_solver.proofs.SolverLaws.{refused_width, many_entries, many_columns, no_columns, ragged, wrong_right, wrong_answer, fitting_call}
use Rattle.two_adic_solver.proofs.solver.solve_checked.Goals as goal

pub returns-then-not-width_fits : goal.returns-then-not-width_fits
returns-then-not-width_fits c = refused_width _ _ _ _ _ (sym c.width_fits.ensures ∙ c.if-not-width_fits.true)

pub returns-then-matrix : goal.returns-then-matrix
returns-then-matrix c = many_entries _ _ _ _ _ (sym c.if-not-width_fits.ensures) c.if-matrix.true

pub returns-then-columns : goal.returns-then-columns
returns-then-columns c = many_columns _ _ _ _ _ (sym c.if-not-width_fits.ensures) c.if-matrix.false c.if-columns.true

pub returns-then-columns-eq0 : goal.returns-then-columns-eq0
returns-then-columns-eq0 c =
    no_columns _ _ _ _ _ (sym c.if-not-width_fits.ensures) c.if-matrix.false c.if-columns.false c.if-columns-eq0.true

pub returns-then-rows-columns : goal.returns-then-rows-columns
returns-then-rows-columns c =
    ragged _ _ _ _ _ (sym c.if-not-width_fits.ensures) c.if-matrix.false c.if-columns.false c.if-rows-columns.true

pub returns-then-right-rows : goal.returns-then-right-rows
returns-then-right-rows c =
    wrong_right _ _ _ _ _ (sym c.if-not-width_fits.ensures) c.if-matrix.false c.if-columns.false c.if-right-rows.true

pub returns-then-answer-columns : goal.returns-then-answer-columns
returns-then-answer-columns c =
    wrong_answer _ _ _ _ _ (sym c.if-not-width_fits.ensures) c.if-matrix.false c.if-columns.false c.if-answer-columns.true

pub solve_fitting-requires : goal.solve_fitting-requires
solve_fitting-requires c =
    let rows : length c.args.right.now ≤ 65536 = omega (arith, div-le_self (length c.args.matrix.now) c.args.columns) in
    record { sizes = ((cc, c.if-matrix.false, rows), c.if-answer-columns.false) }

pub invariant_of-width : goal.invariant_of-width
invariant_of-width c = record { fits = width_high _ (sym c.if-not-width_fits.ensures) }

pub returns : goal.returns
returns c =
    let s = c.solve_fitting in
    let long : length s.new.matrix ≡ length c.args.matrix.now = omega arith in
    fitting_call _ _ _ _ _ (sym c.if-not-width_fits.ensures) c.if-matrix.false c.if-columns.false c.if-columns-eq0.false
    c.if-rows-columns.false c.if-right-rows.false c.if-answer-columns.false _ s.new.matrix s.new.right s.new.answer long s.ensures
