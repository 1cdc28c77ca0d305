-- Each number of a pass is a multiple of the one above it and one sum (MovedFours: `three_moved`); the highest stays.
use Rattle.std.proofs.Common.{refl, pow_pos}
use Rattle.meaning.specs.Tables.{at}
use Rattle.moves.proofs.MovedFours.{three_moved, four_moved}
use Rattle.moves.proofs.fours.MoveFourTransform.four.Goals as goal

pub returns : goal.returns
returns c = λ words.
    four_moved (pow_pos 64) c.args.self.offset (at c.args.numbers) words
    (three_moved (pow_pos 64) c.args.self.offset (at c.args.numbers) refl refl refl refl
    c.wrapping_mul-multiple.ensures refl
    c.wrapping_sub.ensures refl
    c.wrapping_sub-2.ensures c.wrapping_mul.ensures refl
    refl
    c.wrapping_mul-2.ensures refl
    refl c.wrapping_mul-3.ensures refl
    refl refl)
