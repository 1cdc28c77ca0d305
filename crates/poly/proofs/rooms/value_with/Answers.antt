-- The table has the falling products of the point, so that the low bits of what the walk says are the value.
use Rattle.std.proofs.Common.{ap, ◌∙◌, arith}
use Rattle.std.specs.Int.Bits.{bit_and}
use Rattle.theory.specs.Ranges.{width_high}
use Rattle.theory.specs.Words.{masked_low}
use Rattle.poly.proofs.rooms.value_with.Goals as goal

pub returns : goal.returns
returns c =
    let p = c.requires.asked in
    let w = c.args.bitwidth in
    let high = width_high w p.fits in
    ap (bit_and c.box_value.result) c.bitmask.ensures
    ∙ masked_low c.box_value.result w high
    ∙ c.box_value.ensures w c.args.point.now high (λ j e h l. c.point_products.ensures j e (omega (arith, h, p.same)) l)
