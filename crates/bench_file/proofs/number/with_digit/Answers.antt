-- A byte is a digit from 48 to 57, and both checked operations give the number exactly where it is below 2^64.
use Rattle.bench_file.specs.Columns.{with_last_digit}
use Rattle.std.proofs.Common.{arith}
use Rattle.std.proofs.lemmas.Grind.{common_steps}
use Rattle.std.proofs.lemmas.Bool.Decides.{nat_tests}
use Rattle.bench_file.proofs.number.with_digit.Goals as goal

pub returns-then-not-is_ascii_digit : goal.returns-then-not-is_ascii_digit
unfolding with_last_digit
returns-then-not-is_ascii_digit c = grind (arith, common_steps, nat_tests)

pub returns-in_err-checked_mul : goal.returns-in_err-checked_mul
unfolding with_last_digit
returns-in_err-checked_mul c = grind (arith, common_steps, nat_tests)

pub returns : goal.returns
unfolding with_last_digit
returns c = grind (arith, common_steps, nat_tests)
