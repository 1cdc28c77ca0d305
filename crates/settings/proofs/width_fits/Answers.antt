-- Below the range its low end decides; from there on the test against 64 is what is left of it.
use Rattle.std.specs.Prelude.{◌&&◌, leb}
use Rattle.std.proofs.Common.{sym, ap}
use borrow.Author.Tests.{le-leb}
use Rattle.meaning.specs.Settings.{fits_width}
use Rattle.theory.specs.Ranges.{between-low}
use Rattle.settings.proofs.width_fits.Goals as goal

pub returns-then-bitwidth-lt2 : goal.returns-then-bitwidth-lt2
unfolding fits_width
returns-then-bitwidth-lt2 c = sym (between-low _ 64 _ c.if-bitwidth-lt2.true)

pub returns : goal.returns
unfolding fits_width
returns c = sym (ap (◌&& leb c.args.bitwidth 64) (le-leb _ _ c.if-bitwidth-lt2.false))
