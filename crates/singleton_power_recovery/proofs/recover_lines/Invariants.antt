-- The loop: the lines so far are accepted and their answers are in `out`. What is left of the values begins at the next line.
use Rattle.std.proofs.Common.{◌≡◌, ℕ, ◌*◌, ◌≤◌, length, drop}
use Rattle.singleton_power_recovery.specs.VariableLines.{Lines}
use Rattle.singleton_power_recovery.proofs.recover_lines.Given as goal

abbrev pub invariant-loop-i : goal.invariant-loop-i
invariant-loop-i l =
    let from : ℕ = length l.yielded * l.size in
    (l.i-iterator.count ≡ length l.yielded) × (l.i-iterator.iter.size ≡ l.size) × (from ≤ length l.values)
    × (l.i-iterator.iter.rest.now ≡ drop from l.values) × Lines l.bitwidth l.size l.values l.initial.out l.out from
