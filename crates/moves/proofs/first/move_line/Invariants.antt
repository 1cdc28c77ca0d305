-- The loop: the numbers before i have their pass, the others not yet, for whatever coefficients f; the factor is that of the next number.
use Rattle.std.proofs.Common.{◌≡◌, ℕ, suc, ◌^◌, length}
use Rattle.theory.specs.MovedLines.{shift}
use Rattle.lines.specs.NodeOrders.{Opened, Opening}
use Rattle.moves.specs.NodeRows.{Rows}
use Rattle.moves.proofs.first.move_line.Given as goal

abbrev pub invariant-loop-i : goal.invariant-loop-i
invariant-loop-i l =
    let a = l.fn.lines.offset in
    let d = l.fn.lines.degree in
    (length l.part ≡ suc d)
    × Rows (2 ^ 64) a 1 d l.done l.i l.factor
    × ((f : ℕ → ℕ) → Opened (2 ^ 64) (shift (2 ^ 64) a) 1 d f (suc d) (suc l.done) l.initial.part
    → Opening (2 ^ 64) (shift (2 ^ 64) a) 1 d f (suc d) l.done l.i l.part)
