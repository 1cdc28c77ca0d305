-- By computation: the numbers are compared with the inverses, and a list that passes is the rule's table.
use Rattle.theory.specs.Tables.{eq-tabulate_of_test}
use Rattle.meaning.specs.Factorials.{factorial, twos_of, twos, odd_part}
use Rattle.meaning.specs.Inverses.{lifted, inverse}
use Rattle.multivar_poly_recovery.proofs.units.first_inverses.Goals as goal

pub returns : goal.returns
unfolding factorial twos_of twos odd_part lifted inverse
returns c = eq-tabulate_of_test _ _ tt
