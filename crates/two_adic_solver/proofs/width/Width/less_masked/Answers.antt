-- The low halves are below 2^32, so that their product fits, and to 32 bits it is enough (`less-low`). Else product and difference are
-- taken modulo 2^64, which 2^w divides (`less_masked`).
use Rattle.std.proofs.Common.{ℕ, ◌*◌, ◌^◌, bit_and, ap, ◌∙◌}
use Rattle.meaning.specs.Differences.{minus}
use Rattle.two_adic_solver.proofs.RowLaws.{less-low, less_masked}
use Rattle.two_adic_solver.proofs.width.Width.less_masked.Goals as goal

pub returns-then-self-le32 : goal.returns-then-self-le32
returns-then-self-le32 c =
    let a = c.args in
    let w = a.self in
    ap (λ (x : ℕ). bit_and x a.mask) c.wrapping_sub.ensures ∙ less-low a.number w.bits _ c.requires a.q a.other c.if-self-le32.true

pub returns : goal.returns
returns c =
    let a = c.args in
    let w = a.self in
    ap (λ (x : ℕ). bit_and x a.mask) (c.wrapping_sub-2.ensures ∙ ap (minus (2 ^ 64) a.number) c.wrapping_mul.ensures)
    ∙ less_masked a.number w.bits _ c.requires (a.q * a.other) w.fits
