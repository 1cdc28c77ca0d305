-- Two returns: a row with 0 in the column stays, its multiple being 0; any other is less q times the pivot row, which is 0 outside the
-- part that is lent.
use Rattle.std.proofs.Common.{◌+◌, ◌*◌, ◌≤◌, length, refl}
use Rattle.meaning.specs.Tables.{at}
use Rattle.two_adic_solver.proofs.RowLaws.{subtracted_part}
use Rattle.two_adic_solver.proofs.ClearLaws.{row_zero, row_subtracted, row_fits, quotient-told}
use Rattle.two_adic_solver.proofs.table.clear_row.Goals as goal

pub returns-then-entry-eq0 : goal.returns-then-entry-eq0
returns-then-entry-eq0 c =
    let p = c.requires.sizes in
    λ st x part h r small. row_zero _ _ x part _ _ st _ _ _ _ h _ refl small p.1 c.requires.in_columns.0 c.if-entry-eq0.true

pub returns : goal.returns
returns c =
    let a = c.args in
    let p = c.requires.sizes in
    let q = c.requires.in_columns in
    let part_end : a.row * a.columns + a.from + length a.source.now ≤ length a.entries.now =
    row_fits (length a.right.now) a.columns _ p.0.0 a.row a.from _ p.1 q.1 in
    λ st x part h r small.
    row_subtracted _ _ x part _ _ st _ _ _ _ h _ refl small a.from (length a.source.now) r.before r.after
    (at a.source.now) r.entries a.side r.right p.1 q.1 c.multiplier-q.result
    (quotient-told _ _ x _ _ a.pivot.inverse _ c.multiplier-q.ensures (h.entries a.row a.pivot.column p.1 c.requires.in_columns.0) r.inverse_eq) _
    (subtracted_part _ _ (a.row * a.columns + a.from) (length a.source.now) a.source.now a.entries.now _ part_end c.subtract_row.ensures) _
    c.less.ensures
