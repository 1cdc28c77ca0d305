-- The loop: the rows before row i are filled, and the others are zero; the row before row i begins at `from`.
use Rattle.std.proofs.Common.{◌≡◌, ◌+◌, ◌*◌, ◌≤◌}
use Rattle.math_utils.proofs.Entries.{Rows}
use Rattle.math_utils.proofs.stirling.fill.Given as goal

abbrev pub invariant-loop-i : goal.invariant-loop-i
invariant-loop-i l = record { within : l.from + l.side ≤ 65536; before : l.from + l.side ≡ l.i * l.side; rows : Rows l.kind l.bitwidth l.side l.table l.i }
