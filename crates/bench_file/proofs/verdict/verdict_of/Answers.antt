-- Each return is a case of `verdict`: 12 and 9 are the numbers of the two refusals.
use Rattle.bench_file.specs.Verdict.{verdict}
use Rattle.std.proofs.Common.{arith}
use Rattle.std.proofs.lemmas.Grind.{common_steps}
use Rattle.std.proofs.lemmas.Bool.Decides.{nat_tests}
use Rattle.bench_file.proofs.verdict.verdict_of.Goals as goal

pub returns-in-Err-Head : goal.returns-in-Err-Head
unfolding verdict
returns-in-Err-Head g c = grind (arith, common_steps, nat_tests)

pub returns-then-not-passes : goal.returns-then-not-passes
unfolding verdict
returns-then-not-passes g c = grind (arith, common_steps, nat_tests)

pub returns-then-is_err : goal.returns-then-is_err
unfolding verdict
returns-then-is_err g c = grind (arith, common_steps, nat_tests)

pub returns-then-not-exact : goal.returns-then-not-exact
unfolding verdict
returns-then-not-exact g c = grind (arith, common_steps, nat_tests)

pub returns : goal.returns
unfolding verdict
returns g c = grind (arith, common_steps, nat_tests)
