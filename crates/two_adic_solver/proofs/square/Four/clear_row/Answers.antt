-- A used row and one with 0 in the column stay; any other is less q times the pivot row from the column to the end, so that no column is left out.
use Rattle.std.proofs.Common.{◌≡◌, ◌+◌, ◌-◌, ◌*◌, ◌<◌, [], length, get_or, sym, ◌∙◌, lt_irrefl, arith}
use Rattle.meaning.specs.Tables.{at}
use Rattle.meaning.specs.Elimination.{joined}
use Rattle.two_adic_solver.proofs.ClearLaws.{shown-from, row_used, row_zero, row_subtracted, quotient-told}
use Rattle.two_adic_solver.proofs.FixedLaws.{joined-entry}
use Rattle.two_adic_solver.proofs.square.Four.clear_row.Goals as goal

pub returns-then-self-row-clause-cleared : goal.returns-then-self-row-clause-cleared
returns-then-self-row-clause-cleared c = λ st h ev small zeros. row_used _ _ _ _ _ _ st _ _ _ _ h _ c.if-self-row.true

pub returns-then-entry-eq0-clause-cleared : goal.returns-then-entry-eq0-clause-cleared
returns-then-entry-eq0-clause-cleared c =
    let a = c.args in
    let t = a.self.now in
    let p = c.requires in
    let row_lt : a.row < length t.right = omega (arith, t.sides.0, p.2) in
    let same : at (joined t.entries) (a.row * 4 + a.pivot.column) ≡ at (get_or t.entries a.row []) a.pivot.column =
    joined-entry t.square a.row a.pivot.column p.2 p.0 in
    λ st h ev small zeros. row_zero _ _ _ _ _ _ st _ _ _ _ h _ c.if-self-row.false small row_lt p.0 (same ∙ c.if-entry-eq0.true)

pub returns-clause-cleared : goal.returns-clause-cleared
returns-clause-cleared c =
    let a = c.args in
    let t = a.self.now in
    let p = c.requires in
    let row_lt : a.row < length t.right = omega (arith, t.sides.0, p.2) in
    let same : at (joined t.entries) (a.row * 4 + a.pivot.column) ≡ at (get_or t.entries a.row []) a.pivot.column =
    joined-entry t.square a.row a.pivot.column p.2 p.0 in
    let lp : a.pivot.row < length t.right = omega (arith, t.sides.0, p.1) in
    λ st h ev small zeros.
    row_subtracted _ _ _ _ _ _ st _ _ _ _ h _ c.if-self-row.false small a.pivot.column (4 - a.pivot.column) zeros
    (λ j l m. absurd (lt_irrefl j (omega (arith, l, m)))) _ (shown-from _ _ st _ _ h a.pivot.row a.pivot.column lp) _
    (h.rights a.pivot.row lp) row_lt (omega (arith, p.0)) c.multiplier-q.result
    (quotient-told _ _ (st.entry a.pivot.row a.pivot.column) _ _ a.pivot.inverse _ c.multiplier-q.ensures
    (sym same ∙ h.entries a.row a.pivot.column row_lt p.0) ev)
    _ c.subtract_row.ensures.1 _ c.less.ensures
