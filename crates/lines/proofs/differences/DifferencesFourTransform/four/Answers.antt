use Rattle.std.proofs.Common.{◌^◌}
use Rattle.meaning.specs.Tables.{at}
use Rattle.lines.specs.FourTerms.{newton_numbers}
use Rattle.lines.proofs.differences.DifferencesFourTransform.four.Goals as goal

pub returns : goal.returns
returns c = λ words.
    newton_numbers (2 ^ 64) (at c.args.numbers) c.wrapping_sub-first.ensures c.wrapping_sub-second.ensures c.wrapping_sub-third.ensures
    c.wrapping_sub-twice.ensures c.wrapping_sub.ensures c.wrapping_sub-2.ensures
