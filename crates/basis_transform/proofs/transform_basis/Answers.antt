-- A refusal is the check's, and `out` stays. Where the check accepts, there are at most twenty variables and the lengths are those of the box, so that
-- `convert_box` can be called.
use Rattle.std.specs.Prelude.{List, false, ℕ, ◌^◌}
use Rattle.std.proofs.Common.{sym, ◌∙◌, ap}
use Rattle.meaning.specs.Calls.{convert_left, left}
use Rattle.settings.specs.Causes.{ready_passes, ready_high}
use Rattle.settings.specs.Forms.{degrees_of}
use Rattle.theory.specs.AcceptedCalls.{ready}
use Rattle.answers.specs.Laws.{handed_on, left-code}
use Rattle.lines.specs.Transforms.{box_of}
use Rattle.basis_transform.proofs.transform_basis.Goals as goal

pub convert_box-requires : goal.convert_box-requires
convert_box-requires g c =
    let r = ready _ _ _ _ _ _ _ (sym c.in_ok-check_tables.ensures) in
    rw (c.as_slice.ensures ∙ c.degrees-degrees.ensures.all (ready_passes r).short) (ready_high r, r.given_length, r.out_length)

pub returns-in_err-check_tables : goal.returns-in_err-check_tables
unfolding convert_left
returns-in_err-check_tables g c =
    let n = sym c.in_err-check_tables.ensures in
    rw (handed_on _ c.from_residual.ensures.1) (record { says = sym n; leaves = sym (left-code c.in_err-check_tables.field-0.0 _ _ n) })

pub returns-clause-leaves : goal.returns-clause-leaves
unfolding convert_left
returns-clause-leaves g c =
    let k = c.args in
    let s = k.settings.now in
    let n = c.in_ok-check_tables.ensures in
    let r = ready false s.total s.bitwidth s.support.now (degrees_of s) k.coeffs.now k.out.now (sym n) in
    c.convert_box.ensures
    ∙ ap (λ (ds : List ℕ). box_of (g.T.FourTransform.line k.transform) (2 ^ s.bitwidth) ds k.coeffs.now)
    (c.as_slice.ensures ∙ c.degrees-degrees.ensures.all (ready_passes r).short)
    ∙ ap (λ (i : ℕ). left i (box_of (g.T.FourTransform.line k.transform) (2 ^ s.bitwidth) (degrees_of s) k.coeffs.now) k.out.now) n
