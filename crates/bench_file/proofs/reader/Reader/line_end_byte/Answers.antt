-- Another byte is ill; after a line end the value goes to its place in the table, or there is none and the table stays.
use Rattle.bench_file.specs.Steps.{line_end}
use Rattle.std.proofs.Common.{arith}
use Rattle.std.proofs.lemmas.Grind.{common_steps}
use Rattle.std.proofs.lemmas.Bool.Decides.{nat_tests}
use Rattle.bench_file.proofs.reader.Reader.line_end_byte.Goals as goal

pub returns-then-byte-ne10 : goal.returns-then-byte-ne10
unfolding line_end
returns-then-byte-ne10 c = grind (arith, common_steps, nat_tests)

pub returns : goal.returns
unfolding line_end
returns c = grind (arith, common_steps, nat_tests)
