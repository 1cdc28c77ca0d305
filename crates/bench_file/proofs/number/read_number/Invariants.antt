-- Bytes of another length are the text of no number. The loop: the columns that are left, read after `value`, show what all 20 show.
use Rattle.std.proofs.Common.{◌≡◌, take, drop}
use Rattle.bench_file.specs.Columns.{with_columns}
use Rattle.bench_file.proofs.number.read_number.Given as goal

abbrev pub invariant-loop-byte : goal.invariant-loop-byte
invariant-loop-byte l = with_columns l.value (drop l.byte-index (take 20 l.bytes)) ≡ with_columns 0 (take 20 l.bytes)
