-- A refusal of the conversion is passed on, with `out` as it was. Where it accepts, what it left is reduced to the normal form. The promise follows from the
-- number and what is left.
use Rattle.std.proofs.Common.{sym, ◌∙◌}
use Rattle.meaning.specs.Calls.{convert_left}
use Rattle.demand3.proofs.BoxCalls.{normalised}
use Rattle.answers.specs.Laws.{handed_on, left-code}
use Rattle.settings.specs.Forms.{degrees_of}
use Rattle.poly_normalizer.proofs.NormalCalls.{variables_few, reduced_normal}
use Rattle.poly_normalizer.proofs.normalize_polynomial.Goals as goal

pub returns-in_err-to_factorial_basis : goal.returns-in_err-to_factorial_basis
unfolding convert_left
returns-in_err-to_factorial_basis c =
    let k = c.args in
    let s = k.settings.now in
    let r = c.in_err-to_factorial_basis.field-0.0 in
    let n = sym c.in_err-to_factorial_basis.ensures.says in
    let t = c.in_err-to_factorial_basis.ensures.leaves ∙ left-code r _ _ n ∙ sym (left-code r _ _ n) in
    rw (handed_on _ c.from_residual.ensures.1)
    (record { says = sym n; leaves = t; normalises = normalised s.total s.bitwidth s.support.now (degrees_of s) k.coeffs.now k.out.now (sym n) t })

pub returns : goal.returns
unfolding convert_left
returns c =
    let k = c.args in
    let s = k.settings.now in
    let accepted = sym c.in_ok-to_factorial_basis.ensures.says in
    let all = c.degrees-degrees.ensures.all (variables_few s.total s.bitwidth s.support.now (degrees_of s) k.coeffs.now k.out.now accepted) in
    let t = reduced_normal s.total s.bitwidth s.support.now (degrees_of s) k.coeffs.now k.out.now accepted _ c.in_ok-to_factorial_basis.ensures.leaves _
    (rw (c.as_slice.ensures ∙ all) at c.reduce.ensures) in
    record { says = sym accepted; leaves = t; normalises = normalised s.total s.bitwidth s.support.now (degrees_of s) k.coeffs.now k.out.now (sym accepted) t }
