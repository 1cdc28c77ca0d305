-- At 64 bits product and difference are modulo 2^64 as they are (`minus_word`); else it is `less_masked`'s.
use Rattle.std.proofs.Common.{ℕ, ◌*◌, ◌^◌, sym, ap, ◌∙◌, le_refl}
use Rattle.meaning.specs.Differences.{minus}
use Rattle.two_adic_solver.proofs.RowLaws.{minus_word}
use Rattle.two_adic_solver.proofs.width.Width.less_multiple.Goals as goal

pub returns-then-self-eq64 : goal.returns-then-self-eq64
returns-then-self-eq64 c =
    let a = c.args in
    c.wrapping_sub.ensures
    ∙ ap (minus (2 ^ 64) a.number) c.wrapping_mul.ensures
    ∙ minus_word 64 a.number (a.q * a.other) (le_refl 64)
    ∙ ap (λ (w : ℕ). minus (2 ^ w) a.number (a.q * a.other)) (sym c.if-self-eq64.true)
