-- Bytes of another length, or columns that do not read, are the text of no number; else the last digit decides (`reads_last`).
use Rattle.std.proofs.Common.{arith, take}
use Rattle.std.proofs.lemmas.Grind.{common_steps}
use Rattle.bench_file.specs.Columns.{and_then}
use Rattle.bench_file.specs.NumberLaws.{reads_ill_length, reads_ill_columns, reads_last, columns_turn, columns_none}
use Rattle.bench_file.proofs.number.read_number.Goals as goal

pub returns-then-bytes-ne21 : goal.returns-then-bytes-ne21
returns-then-bytes-ne21 c = reads_ill_length _ c.if-bytes-ne21.true

pub returns-in_err-value : goal.returns-in_err-value
unfolding and_then
returns-in_err-value c =
    let e = columns_turn (take 20 c.args.bytes.now) c.loop-byte.value c.loop-byte.byte-index c.loop-byte-test.true in
    grind (arith, common_steps, reads_ill_columns)

pub loop-byte-preserved : goal.loop-byte-preserved
unfolding and_then
loop-byte-preserved c =
    let e = columns_turn (take 20 c.args.bytes.now) c.loop-byte.value c.loop-byte.byte-index c.loop-byte-test.true in
    grind (arith, common_steps)

pub returns : goal.returns
returns c =
    let e = columns_none (take 20 c.args.bytes.now) c.loop-byte.value c.loop-byte.byte-index c.loop-byte-test.false in
    grind (arith, common_steps, reads_last)
