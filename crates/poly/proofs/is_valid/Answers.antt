-- Settings without the width, then the length, then the width, then the walk.
use Rattle.std.proofs.Common.{Bool, Ok, ◌≡◌, refl, true, false, ◌&&◌, sym, ap, ◌∙◌, ap₂, eq-eqb, ne_eqb}
use Rattle.meaning.specs.Boxes.{cells}
use Rattle.settings.specs.Settled.{settled, unsettled}
use Rattle.meaning.specs.Recovery.{every}
use Rattle.meaning.specs.Replies.{accepted}
use Rattle.meaning.specs.Calls.{truth}
use Rattle.theory.specs.Ranges.{width_high}
use Rattle.box_rows.specs.Bounds.{is_below}
use Rattle.box_rows.specs.Held.{bounded_held}
use Rattle.poly.proofs.Replies.{valid_turned, valid_length, valid_accepted}
use Rattle.settings.specs.Forms.{degrees_of}
use Rattle.settings.specs.Taken.{taken_passes, taken_small}
use Rattle.answers.specs.Said.{said_truth}
use Rattle.answers.specs.Laws.{handed_on}
use Rattle.poly.proofs.is_valid.Goals as goal

-- what a yes or no says
said_yes_or_no : (b : Bool) → said_truth (Ok b) ≡ accepted (truth b)
said_yes_or_no true = refl
said_yes_or_no false = refl

pub returns-then-coeffs-count : goal.returns-then-coeffs-count
returns-then-coeffs-count c =
    let k = c.args in
    let s = k.settings.now in
    let ds = degrees_of s in
    let ok = settled false s.total true s.support.now ds c.check_within.ensures c.in_ok-count.was in
    let x = valid_length s.bitwidth k.coeffs.now ok (ne_eqb _ _ (λ q. c.if-coeffs-count.true (q ∙ sym ok.counted))) in
    record { says = x.0; judges = x.1 }

pub returns-then-not-width_fits : goal.returns-then-not-width_fits
returns-then-not-width_fits c =
    let k = c.args in
    let s = k.settings.now in
    let ds = degrees_of s in
    let ok = settled false s.total true s.support.now ds c.check_within.ensures c.in_ok-count.was in
    let long = c.if-coeffs-count.false ∙ ok.counted in
    let x = valid_accepted s.bitwidth k.coeffs.now ok (eq-eqb _ _ long) false
    (ap (◌&& every (cells ds) (is_below s.bitwidth ds k.coeffs.now)) (sym c.width_fits.ensures ∙ c.if-not-width_fits.true)) in
    record { says = x.0; judges = x.1 }

pub returns-in_err-count : goal.returns-in_err-count
returns-in_err-count c =
    let k = c.args in
    let s = k.settings.now in
    let ds = degrees_of s in
    let x = valid_turned s.bitwidth k.coeffs.now (unsettled false s.total true s.support.now ds c.check_within.ensures c.in_err-count.was) in
    rw (handed_on _ c.from_residual.ensures.1) (record { says = x.0; judges = x.1 })

pub returns : goal.returns
returns c =
    let k = c.args in
    let s = k.settings.now in
    let ds = degrees_of s in
    let ok = settled false s.total true s.support.now ds c.check_within.ensures c.in_ok-count.was in
    let pass = taken_passes ok in
    let long = c.if-coeffs-count.false ∙ ok.counted in
    let wide = sym c.width_fits.ensures ∙ c.if-not-width_fits.false in
    let same = c.as_slice.ensures ∙ c.degrees-degrees.ensures.all pass.short in
    let tested = sym
    (bounded_held ds s.bitwidth (taken_small ok) (width_high s.bitwidth wide) k.coeffs.now _ long
    (rw same at c.bounded.ensures)) in
    let x = valid_accepted s.bitwidth k.coeffs.now ok (eq-eqb _ _ long) c.bounded.result (ap₂ ◌&&◌ wide tested) in
    rw (said_yes_or_no c.bounded.result) (record { says = x.0; judges = x.1 })
