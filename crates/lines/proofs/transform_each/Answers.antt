use Rattle.std.proofs.Common.{rules}
use Rattle.meaning.specs.Tables.{at}
use Rattle.lines.proofs.transform_each.Goals as goal

pub returns : goal.returns
returns g c = c.walk.ensures (λ i. g.T.OfNumber.given (at c.args.numbers.now i)) (λ i t p. search rules)
