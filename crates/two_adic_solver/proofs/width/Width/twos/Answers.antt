-- The zeros at the end of 64 bits, cut at the width, are the twos cut at the width.
use Rattle.std.proofs.Common.{◌∙◌}
use Rattle.theory.specs.Trailing.{trailing_cut}
use Rattle.two_adic_solver.proofs.width.Width.twos.Goals as goal

pub returns : goal.returns
returns c = c.min.ensures ∙ trailing_cut c.args.self.bits 64 c.args.number c.args.self.fits
