-- By computation: the 256 numbers are compared with the odd parts of the factorials modulo 2^64, and a list that passes is the rule's table,
-- which has the recurrence.
use Rattle.theory.specs.Tables.{eq-tabulate_of_test}
use Rattle.meaning.specs.Factorials.{factorial, twos_of, twos, odd_part}
use Rattle.math_utils.specs.OddTables.{with_recurrence}
use Rattle.math_utils.proofs.odd_factors.odd_factorials.Goals as goal

pub returns : goal.returns
unfolding factorial twos_of twos odd_part
returns c = let p = with_recurrence (eq-tabulate_of_test _ _ tt) in record { table = p.0; recurs = p.1 }
