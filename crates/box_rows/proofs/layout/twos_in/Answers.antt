-- The zeros at the end of a number of 64 bits that is not 0 are its twos.
use Rattle.theory.specs.Twos.{trailing_eq-twos}
use Rattle.box_rows.proofs.layout.twos_in.Goals as goal

pub returns-clause-twos : goal.returns-clause-twos
returns-clause-twos c = trailing_eq-twos 64 c.args.n c.requires c.ranges.n.fits
