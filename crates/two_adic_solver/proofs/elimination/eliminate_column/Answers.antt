-- Without a pivot the step changes no row. With one, its twos are below the width, and `clear_column` marks its row and makes the step.
use Rattle.std.proofs.Common.{◌<◌, length, refl, ap, ne_of_lt, arith}
use Rattle.two_adic_solver.proofs.ColumnLaws.{pivot_low, column_missing, column_found, column_clearing}
use Rattle.two_adic_solver.proofs.elimination.eliminate_column.Goals as goal

pub returns-in_default-clause-shown : goal.returns-in_default-clause-shown
returns-in_default-clause-shown g c =
    let a = c.args in
    let q = c.requires.sizes in
    λ st h.
    rw (ap length c.right.ensures) (column_missing _ _ _ a.column _ _ _ c.in_default.ensures.lowest _ a.answer.now st q.1 h refl (omega (arith, q.0, q.1)))

pub clear_column-requires : goal.clear_column-requires
clear_column-requires g c =
    let found = c.in-Some.ensures in
    let low = pivot_low _ _ _ c.args.column _ _ c.in-Some.row found.lowest (ne_of_lt found.inside) in
    record { pivot = (c.requires.sizes.1, low.0, low.1) }

pub returns-clause-shown : goal.returns-clause-shown
returns-clause-shown g c =
    let a = c.args in
    let q = c.requires.sizes in
    let found = c.in-Some.ensures in
    let marked : c.in-Some.row < length (g.S.System.used a.system.now) = omega (arith, found.inside, g.met.S.System.marks a.system.now) in
    λ st h.
    rw c.clear_column.ensures.kept.1
    (column_found _ _ _ a.column _ _ c.in-Some.row found.lowest _ a.answer.now st q.1 h marked (omega (arith, q.0, q.1)) _ _
    (c.clear_column.ensures.cleared st h.shows (column_clearing _ _ _ _ _ _ c.in-Some.row found.lowest _ a.answer.now st q.1 h marked)))
