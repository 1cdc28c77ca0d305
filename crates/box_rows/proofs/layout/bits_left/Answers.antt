-- 0 has no twos; else the difference, cut at 0.
use Rattle.std.proofs.Common.{ap, arith}
use Rattle.meaning.specs.Factorials.{twos}
use Rattle.box_rows.proofs.RowLayouts.{no_twos}
use Rattle.box_rows.proofs.layout.bits_left.Goals as goal

pub returns-then-n-eq0 : goal.returns-then-n-eq0
returns-then-n-eq0 c = omega (arith, ap twos c.if-n-eq0.true, no_twos)
