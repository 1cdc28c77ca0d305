-- Another length is left as it was. The loop goes down: the i columns that show `rest`, before the bytes from i on, are the number's text.
use Rattle.std.proofs.Common.{◌≡◌, length, drop, ◌++◌}
use Rattle.bench_file.specs.Text.{columns, number}
use Rattle.bench_file.proofs.number.write_number.Given as goal

abbrev pub invariant-loop-i : goal.invariant-loop-i
invariant-loop-i l = (length l.out ≡ 21) × (columns l.i l.rest ++ drop l.i l.out ≡ number l.value)
