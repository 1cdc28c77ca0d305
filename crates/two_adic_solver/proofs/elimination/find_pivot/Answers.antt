-- The loop: `found` and `least` are the lowest of the first rows. A used row, and one that is not lower, changes nothing; once the least is 0 no row does.
use Rattle.std.proofs.Common.{◌<◌, length, ap, arith}
use Rattle.two_adic_solver.proofs.RowLaws.{searched_start, searched_pass, searched_used, searched_lower, searched_odd}
use Rattle.two_adic_solver.proofs.elimination.find_pivot.Goals as goal
use Rattle.two_adic_solver.proofs.elimination.find_pivot.Goals.{then-not-used-row+then-here-least+else-least-eq0, then-not-used-row+else-here-least, else-not-used-row}

pub loop-row-init : goal.loop-row-init
loop-row-init g c = searched_start _ _ _ _ c.width-width.ensures

pub returns-then-least-eq0-clause-lowest : goal.returns-then-least-eq0-clause-lowest
returns-then-least-eq0-clause-lowest g c =
    let a = c.args in
    let m = g.S.System in
    let l = c.loop-row in
    let row_lt : l.row < length (m.right a.system.now) = omega (arith, c.loop-row-test.true, ap length c.right-row-end.ensures) in
    let lower = searched_lower _ _ _ a.column (m.entries a.system.now) (m.used a.system.now) l.invariant (rw c.used.ensures at c.if-not-used-row.true)
    (rw (c.width-width.ensures, c.entry.ensures) at c.twos-here.ensures) row_lt c.if-here-least.true in
    searched_odd lower c.if-least-eq0.true (omega arith)

pub loop-row-preserved : goal.loop-row-preserved
loop-row-preserved g c =
    let a = c.args in
    let m = g.S.System in
    let l = c.loop-row in
    let row_lt : l.row < length (m.right a.system.now) = omega (arith, c.loop-row-test.true, ap length c.right-row-end.ensures) in
    elim c.if-not-used-row.branch [
      | then-not-used-row+then-here-least+else-least-eq0 w ↦
          rw (w.found-is, w.least-is)
          (searched_lower _ _ _ a.column (m.entries a.system.now) (m.used a.system.now) l.invariant (rw c.used.ensures at w.if-not-used-row.true)
          (rw (c.width-width.ensures, w.entry.ensures) at w.twos-here.ensures) row_lt w.if-here-least.true)
      | then-not-used-row+else-here-least w ↦
          rw (w.found-is, w.least-is)
          (searched_pass _ _ _ a.column (m.entries a.system.now) (m.used a.system.now) l.invariant (rw c.used.ensures at w.if-not-used-row.true)
          (rw (c.width-width.ensures, w.entry.ensures) at w.twos-here.ensures) w.if-here-least.false)
      | else-not-used-row w ↦
          rw (w.found-is, w.least-is)
          (searched_used _ _ _ a.column (m.entries a.system.now) (m.used a.system.now) l.invariant (rw c.used.ensures at w.if-not-used-row.false))
    ]
