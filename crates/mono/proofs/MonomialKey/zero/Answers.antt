-- Twenty zeros are the table of the rule 0, by computation.
use Rattle.std.specs.Prelude.{refl}
use Rattle.meaning.specs.Tables.{tabulate}
use Rattle.mono.proofs.MonomialKey.zero.Goals as goal

pub returns : goal.returns
unfolding tabulate
returns c = refl
