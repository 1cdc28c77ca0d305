-- One case of `step_at` for each stage.
use Rattle.bench_file.specs.Steps.{step_at}
use Rattle.std.proofs.Common.{arith}
use Rattle.std.proofs.lemmas.Grind.{common_steps}
use Rattle.std.proofs.lemmas.Bool.Decides.{nat_tests}
use Rattle.bench_file.proofs.reader.Reader.read_byte.Goals as goal

pub returns-in-FirstLine : goal.returns-in-FirstLine
unfolding step_at
returns-in-FirstLine c = grind (arith, common_steps, nat_tests)

pub returns-in-SecondLine : goal.returns-in-SecondLine
unfolding step_at
returns-in-SecondLine c = grind (arith, common_steps, nat_tests)

pub returns-in-Value : goal.returns-in-Value
unfolding step_at
returns-in-Value c = grind (arith, common_steps, nat_tests)

pub returns-in-LineEnd : goal.returns-in-LineEnd
unfolding step_at
returns-in-LineEnd c = grind (arith, common_steps, nat_tests)

pub returns-in-IllHead : goal.returns-in-IllHead
unfolding step_at
returns-in-IllHead c = grind (arith, common_steps, nat_tests)
