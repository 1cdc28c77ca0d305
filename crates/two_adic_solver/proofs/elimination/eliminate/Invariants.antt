-- The loop: whatever state the tables showed at first, they show it after `column` steps of the elimination.
use Rattle.two_adic_solver.proofs.ColumnLaws.{Passed}
use Rattle.two_adic_solver.proofs.elimination.eliminate.Given as goal

abbrev pub invariant-loop-column : goal.invariant-loop-column
invariant-loop-column g l =
    let m = g.S.System in
    let s = l.initial.system in
    let t = l.system in
    record {
      same : m.same s t;
      passed :
          Passed (m.width s) (m.columns s) (m.entries s) (m.right s) (m.used s) l.initial.answer
          (m.entries t) (m.right t) (m.used t) l.answer l.column;
    }
