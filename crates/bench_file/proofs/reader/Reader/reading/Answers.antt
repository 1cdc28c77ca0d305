-- One case for each stage; where a value is due the column decides.
use Rattle.bench_file.specs.Steps.{reading_at}
use Rattle.std.proofs.Common.{arith}
use Rattle.std.proofs.lemmas.Grind.{common_steps}
use Rattle.std.proofs.lemmas.Bool.Decides.{nat_tests}
use Rattle.bench_file.proofs.reader.Reader.reading.Goals as goal

pub returns-in-FirstLine : goal.returns-in-FirstLine
unfolding reading_at
returns-in-FirstLine c = grind (arith, common_steps, nat_tests)

pub returns-in-LineEnd : goal.returns-in-LineEnd
unfolding reading_at
returns-in-LineEnd c = grind (arith, common_steps, nat_tests)

pub returns-then-self-eq0 : goal.returns-then-self-eq0
unfolding reading_at
returns-then-self-eq0 c = grind (arith, common_steps, nat_tests)

pub returns-else-self-eq0 : goal.returns-else-self-eq0
unfolding reading_at
returns-else-self-eq0 c = grind (arith, common_steps, nat_tests)
