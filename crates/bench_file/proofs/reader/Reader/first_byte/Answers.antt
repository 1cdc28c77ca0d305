-- A byte of a number, or a line end, after which the two tests decide as `first_whole` does.
use Rattle.bench_file.specs.Steps.{first_byte_of}
use Rattle.std.proofs.Common.{arith}
use Rattle.std.proofs.lemmas.Grind.{common_steps}
use Rattle.std.proofs.lemmas.Bool.Decides.{nat_tests}
use Rattle.bench_file.proofs.reader.Reader.first_byte.Goals as goal

pub returns-then-byte-ne10 : goal.returns-then-byte-ne10
unfolding first_byte_of
returns-then-byte-ne10 c = grind (arith, common_steps, nat_tests)

pub returns : goal.returns
unfolding first_byte_of
returns c = grind (arith, common_steps, nat_tests)
