-- Both forms are checked; then totals and widths, and the boxes with the degrees of their settings.
use Rattle.std.proofs.Common.{◌≡◌, ℕ, ◌∙◌, ne_eqb}
use Rattle.meaning.specs.Calls.{form_number}
use Rattle.answers.specs.Laws.{handed_on}
use Rattle.settings.specs.Forms.{form_lent, degrees_of}
use Rattle.sameness.proofs.Replies.{form_passes, form_turned, same_first, same_second, totals_differ, widths_differ, both_decide}
use Rattle.sameness.proofs.Replies.{cube_each, short, places, width, boxed, as_forms}
use Rattle.sameness.proofs.same.Goals as goal
use Rattle.sameness.proofs.same.Goals.{In_ok-check_form, In_ok-check_form-2, After-as_slice, After-as_slice-2}

-- the first form passes, and the second
first : (c : In_ok-check_form) → ◌≡◌ {A = ℕ} 0 (form_number (form_lent c.args.form1.now))
first c = form_passes (form_lent c.args.form1.now) c.check_form.ensures c.in_ok-check_form.was

second : (c : In_ok-check_form-2) → ◌≡◌ {A = ℕ} 0 (form_number (form_lent c.args.form2.now))
second c = form_passes (form_lent c.args.form2.now) c.check_form-2.ensures c.in_ok-check_form-2.was

-- the degrees that are lent on
degrees1 : (c : After-as_slice) → c.as_slice.result.now ≡ degrees_of c.args.form1.now.settings
degrees1 c =
    let f = c.args.form1.now in
    c.as_slice.ensures ∙ c.degrees-degrees1.ensures.all
    (short f.settings f.coeffs.now (form_passes (form_lent f) c.check_form.ensures c.in_ok-check_form.was))

degrees2 : (c : After-as_slice-2) → c.as_slice-2.result.now ≡ degrees_of c.args.form2.now.settings
degrees2 c =
    let g = c.args.form2.now in
    c.as_slice-2.ensures ∙ c.degrees-degrees2.ensures.all
    (short g.settings g.coeffs.now (form_passes (form_lent g) c.check_form-2.ensures c.in_ok-check_form-2.was))

pub returns-in_err-check_form : goal.returns-in_err-check_form
returns-in_err-check_form c =
    let f = c.args.form1.now in
    let g = c.args.form2.now in
    let x = same_first (form_lent f) (form_lent g) (cube_each f.settings) (cube_each g.settings) _
    (form_turned (form_lent f) c.check_form.ensures c.in_err-check_form.was) in
    rw (handed_on _ c.from_residual.ensures.1) (record { says = x.0; compares = x.1 })

pub returns-in_err-check_form-2 : goal.returns-in_err-check_form-2
returns-in_err-check_form-2 c =
    let f = c.args.form1.now in
    let g = c.args.form2.now in
    let k = goal.at.returns-in_err-check_form-2 c in
    let x = same_second (form_lent f) (form_lent g) (cube_each f.settings) (cube_each g.settings) (first k.In_ok-check_form) _
    (form_turned (form_lent g) c.check_form-2.ensures c.in_err-check_form-2.was) in
    rw (handed_on _ c.from_residual-in_err-check_form-2.ensures.1) (record { says = x.0; compares = x.1 })

pub returns-then-form1-form2 : goal.returns-then-form1-form2
returns-then-form1-form2 c =
    let f = c.args.form1.now in
    let g = c.args.form2.now in
    let k = goal.at.returns-then-form1-form2 c in
    let x = totals_differ (form_lent f) (form_lent g) (cube_each f.settings) (cube_each g.settings) (first k.In_ok-check_form) (second k.In_ok-check_form-2)
    (ne_eqb _ _ c.if-form1-form2.true) in
    record { says = x.0; compares = x.1 }

pub returns-then-form1-form2-2 : goal.returns-then-form1-form2-2
returns-then-form1-form2-2 c =
    let f = c.args.form1.now in
    let g = c.args.form2.now in
    let k = goal.at.returns-then-form1-form2-2 c in
    let x = widths_differ (form_lent f) (form_lent g) (cube_each f.settings) (cube_each g.settings) (first k.In_ok-check_form) (second k.In_ok-check_form-2)
    c.if-form1-form2.false (ne_eqb _ _ c.if-form1-form2-2.true) in
    record { says = x.0; compares = x.1 }

pub invariant_of-checked1 : goal.invariant_of-checked1
invariant_of-checked1 c =
    let f = c.args.form1.now in
    let k = goal.at.invariant_of-checked1 c in
    record { boxed = boxed f.settings f.coeffs.now (first k.In_ok-check_form) (degrees1 k.After-as_slice) }

pub invariant_of-checked2 : goal.invariant_of-checked2
invariant_of-checked2 c =
    let g = c.args.form2.now in
    let k = goal.at.invariant_of-checked2 c in
    record { boxed = boxed g.settings g.coeffs.now (second k.In_ok-check_form-2) (degrees2 k.After-as_slice-2) }

pub same_boxes-requires : goal.same_boxes-requires
same_boxes-requires c =
    let f = c.args.form1.now in
    width f.settings f.coeffs.now (first (goal.at.same_boxes-requires c).In_ok-check_form)

pub returns : goal.returns
returns c =
    let f = c.args.form1.now in
    let g = c.args.form2.now in
    let k = goal.at.returns c in
    let totals = c.if-form1-form2.false in
    let widths = c.if-form1-form2-2.false in
    let one = places f.settings f.coeffs.now (first k.In_ok-check_form) in
    let other = places g.settings g.coeffs.now (second k.In_ok-check_form-2) in
    let answer = c.same_boxes.ensures f.settings.total one (rw totals other)
    ∙ as_forms f.settings.total f.settings.bitwidth f.settings.support.now f.coeffs.now g.settings.support.now g.coeffs.now totals widths
    (degrees1 k.After-as_slice) (degrees2 k.After-as_slice-2) in
    let x = both_decide (form_lent f) (form_lent g) (cube_each f.settings) (cube_each g.settings) (first k.In_ok-check_form) (second k.In_ok-check_form-2)
    totals widths {b = c.same_boxes.result} answer in
    record { says = x.0; compares = x.1 }
