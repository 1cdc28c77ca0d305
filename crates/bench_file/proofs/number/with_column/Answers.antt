-- A blank, where nothing is shown yet; else the digit, but a 0.
use Rattle.bench_file.specs.Columns.{with_column_of, not_zero}
use Rattle.std.proofs.Common.{arith}
use Rattle.std.proofs.lemmas.Grind.{common_steps}
use Rattle.std.proofs.lemmas.Bool.Decides.{nat_tests}
use Rattle.bench_file.proofs.number.with_column.Goals as goal

pub returns-then-byte-eq32 : goal.returns-then-byte-eq32
unfolding with_column_of not_zero
returns-then-byte-eq32 c = grind (arith, common_steps, nat_tests)

pub returns : goal.returns
unfolding with_column_of not_zero
returns c = grind (arith, common_steps, nat_tests)
