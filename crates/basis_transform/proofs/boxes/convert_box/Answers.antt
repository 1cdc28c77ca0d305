-- Copied, transformed modulo 2^64 and, below width 64, cut to the width: one box of the contracts (`box_of_cut`, `box_of_words`). The lengths agree, so that
-- the copy is made.
use borrow.Author.Tests.{eq-eqb}
use Rattle.std.proofs.Common.{◌≡◌, ◌∙◌, sym, arith}
use Rattle.basis_transform.proofs.Steps.{box_of_cut, box_of_words}
use Rattle.basis_transform.proofs.boxes.convert_box.Goals as goal

pub returns-then-bitwidth-lt64 : goal.returns-then-bitwidth-lt64
returns-then-bitwidth-lt64 g c =
    let k = c.args in
    let copied : c.copy.new.to ≡ k.coefficients.now = c.copy.ensures ∙ simp (eq-eqb _ _ (c.requires.1 ∙ sym c.requires.2)) in
    c.cut.ensures
    ∙ box_of_cut _ (g.met.T.FourTransform.of_mul k.transform) k.bitwidth k.degrees.now k.coefficients.now c.requires.0 c.requires.1
    copied c.transform_all.ensures

pub returns-else-bitwidth-lt64 : goal.returns-else-bitwidth-lt64
returns-else-bitwidth-lt64 g c =
    let k = c.args in
    let copied : c.copy.new.to ≡ k.coefficients.now = c.copy.ensures ∙ simp (eq-eqb _ _ (c.requires.1 ∙ sym c.requires.2)) in
    box_of_words _ (g.met.T.FourTransform.of_mul k.transform) k.bitwidth k.degrees.now k.coefficients.now c.requires.0 c.requires.1
    copied c.transform_all.ensures
    c.if-bitwidth-lt64.false (λ i. omega (arith, c.slice_known-3-1.given i))
