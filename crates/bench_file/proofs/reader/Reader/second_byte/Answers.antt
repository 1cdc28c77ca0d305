-- A byte of a number, or a line end, after which the four tests decide as `second_whole` does.
use Rattle.bench_file.specs.Steps.{second_byte_of}
use Rattle.std.proofs.Common.{arith}
use Rattle.std.proofs.lemmas.Grind.{common_steps}
use Rattle.std.proofs.lemmas.Bool.Decides.{nat_tests}
use Rattle.bench_file.proofs.reader.Reader.second_byte.Goals as goal

pub returns-then-byte-ne10 : goal.returns-then-byte-ne10
unfolding second_byte_of
returns-then-byte-ne10 c = grind (arith, common_steps, nat_tests)

pub returns : goal.returns
unfolding second_byte_of
returns c = grind (arith, common_steps, nat_tests)
