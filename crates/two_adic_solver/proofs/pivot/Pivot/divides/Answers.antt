-- The low bits of a number, as many as there are twos, are its rest modulo the power of two.
use Rattle.std.proofs.Common.{ℕ, nat_eq, bit_and, ap, ◌∙◌, arith}
use Rattle.theory.specs.Words.{masked_low}
use Rattle.two_adic_solver.proofs.pivot.Pivot.divides.Goals as goal

pub returns : goal.returns
returns c =
    let p = c.args.self.now in
    ap (λ (n : ℕ). nat_eq n 0) (ap (bit_and c.args.number) c.bitmask.ensures ∙ masked_low c.args.number p.twos (omega (arith, p.fits, p.width.fits)))
