-- One of the first 20 columns or the last one, which hands the number to `with_head`, or no number.
use Rattle.bench_file.specs.Steps.{head_column_of}
use Rattle.std.proofs.Common.{arith}
use Rattle.std.proofs.lemmas.Grind.{common_steps}
use Rattle.std.proofs.lemmas.Bool.Decides.{nat_tests}
use Rattle.bench_file.proofs.reader.Reader.head_column.Goals as goal

pub returns-in-Some : goal.returns-in-Some
unfolding head_column_of
returns-in-Some c = grind (arith, common_steps, nat_tests)

pub returns-in-Some-2 : goal.returns-in-Some-2
unfolding head_column_of
returns-in-Some-2 c = grind (arith, common_steps, nat_tests)

pub returns-in-None : goal.returns-in-None
unfolding head_column_of
returns-in-None c = grind (arith, common_steps, nat_tests)
