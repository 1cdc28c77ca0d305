-- The loop: whatever state the tables showed at first, they show it after `column` steps of the elimination.
use Rattle.std.proofs.Common.{arith}
use Rattle.two_adic_solver.proofs.ColumnLaws.{passed_start, passed-step}
use Rattle.two_adic_solver.proofs.SolverLaws.{eliminated-told}
use Rattle.two_adic_solver.proofs.elimination.eliminate.Goals as goal

pub loop-column-init : goal.loop-column-init
loop-column-init g c = record { same = g.met.S.System.same_refl _; passed = passed_start _ _ _ _ _ _ }

pub loop-column-preserved : goal.loop-column-preserved
loop-column-preserved g c =
    let l = c.loop-column in
    let t = c.eliminate_column in
    let laws = g.met.S.System in
    let columns = laws.same_columns _ _ l.invariant.same in
    let width = laws.same_width _ _ l.invariant.same in
    record {
      same = laws.same_trans _ _ _ l.invariant.same t.ensures.kept;
      passed =
          passed-step _ _ _ _ _ _ _ _ _ l.answer _ _ _ t.new.answer l.column l.invariant.passed
          (omega (arith, c.columns-column-end.ensures, c.loop-column-test.true)) (laws.same_rows _ _ t.ensures.kept) (omega arith)
          (rw (width, columns) at t.ensures.shown);
    }

pub returns-clause-shown : goal.returns-clause-shown
returns-clause-shown g c =
    let l = c.loop-column in
    let m = g.S.System in
    let s = c.args.system.now in
    let laws = g.met.S.System in
    let kept = c.reduce.ensures.kept in
    let columns = laws.same_columns _ _ kept.0 in
    let width = laws.same_width _ _ kept.0 in
    eliminated-told _ _ (m.entries s) (m.right s) _ _ (m.used s) _ _ _ _ l.answer l.column (laws.whole s) c.reduce.ensures.entries c.reduce.ensures.right
    c.requires.unmarked (rw (width, columns, kept.1) at l.invariant.passed) (omega (arith, columns, c.columns-column-end.ensures, c.loop-column-test.false))
