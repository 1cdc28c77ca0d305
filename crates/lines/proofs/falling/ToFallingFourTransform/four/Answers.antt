use Rattle.std.proofs.Common.{refl}
use Rattle.meaning.specs.Tables.{at}
use Rattle.lines.specs.FourTerms.{falling-four, four_numbers}
use Rattle.lines.proofs.falling.ToFallingFourTransform.four.Goals as goal

pub returns : goal.returns
returns c = λ words. four_numbers (falling-four (at c.args.numbers) words refl c.wrapping_mul.ensures refl refl)
