-- The product modulo 2^64, masked to w - twos bits, is the product modulo that power of two.
use Rattle.std.proofs.Common.{◌-◌, ◌∙◌, ap₂, arith, bit_and}
use Rattle.theory.specs.Words.{masked_to}
use Rattle.two_adic_solver.proofs.pivot.Pivot.multiplier.Goals as goal

pub returns : goal.returns
returns c =
    let p = c.args.self.now in
    ap₂ bit_and c.wrapping_mul.ensures c.bitmask.ensures ∙ masked_to _ (p.width.bits - p.twos) (omega (arith, p.width.fits))
