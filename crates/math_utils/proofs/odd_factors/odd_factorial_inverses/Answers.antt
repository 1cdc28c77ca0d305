-- By computation: the 256 numbers are compared with the inverses modulo 2^64 of the odd parts, and a list that passes is the rule's table,
-- whose entries are the inverses.
use Rattle.theory.specs.Tables.{eq-tabulate_of_test}
use Rattle.meaning.specs.Factorials.{factorial, twos_of, twos, odd_part}
use Rattle.meaning.specs.Inverses.{lifted, inverse}
use Rattle.math_utils.specs.OddTables.{with_inverses}
use Rattle.math_utils.proofs.odd_factors.odd_factorial_inverses.Goals as goal

pub returns : goal.returns
unfolding factorial twos_of twos odd_part lifted inverse
returns c = let p = with_inverses (eq-tabulate_of_test _ _ tt) in record { table = p.0; inverts = p.1 }
