use Rattle.std.proofs.Common.{pow_pos}
use Rattle.meaning.specs.Tables.{at}
use Rattle.lines.specs.FourTerms.{powers_four, four_numbers}
use Rattle.lines.proofs.powers.ToPowersFourTransform.four.Goals as goal

pub returns : goal.returns
returns c = λ words.
    four_numbers
    (powers_four (at c.args.numbers) words (pow_pos 64) c.wrapping_mul.ensures c.wrapping_sub-middle.ensures c.wrapping_sub.ensures
    c.wrapping_sub-2.ensures)
