-- Settings, then the length, then the walk over the box, whose degrees are a part of twenty copies; `Replies` has a lemma for each of the three returns.
use Rattle.std.proofs.Common.{sym, ◌∙◌, eq-eqb, ne_eqb}
use Rattle.theory.specs.Ranges.{width_high}
use Rattle.poly.proofs.Replies.{reduce_turned, reduce_length, reduce_accepted}
use Rattle.box_rows.specs.Held.{reduce_held}
use Rattle.settings.specs.Forms.{degrees_of}
use Rattle.settings.specs.Taken.{taken, turned_down, taken_passes, taken_small}
use Rattle.answers.specs.Laws.{handed_on}
use Rattle.poly.proofs.reduce.Goals as goal

pub returns-then-coeffs-count : goal.returns-then-coeffs-count
returns-then-coeffs-count c =
    let k = c.args in
    let s = k.settings.now in
    let ok = taken s c.check.ensures c.in_ok-count.was in
    let x = reduce_length s.bitwidth k.coeffs.now ok (ne_eqb _ _ (λ q. c.if-coeffs-count.true (q ∙ sym ok.counted))) in
    record { says = x.0; leaves = x.1.0; reduces = x.1.1 }

pub returns-in_err-count : goal.returns-in_err-count
returns-in_err-count c =
    let k = c.args in
    let s = k.settings.now in
    let x = reduce_turned s.bitwidth k.coeffs.now (turned_down s c.check.ensures c.in_err-count.was) in
    rw (handed_on _ c.from_residual.ensures.1) (record { says = x.0; leaves = x.1.0; reduces = x.1.1 })

pub returns : goal.returns
returns c =
    let k = c.args in
    let s = k.settings.now in
    let ds = degrees_of s in
    let ok = taken s c.check.ensures c.in_ok-count.was in
    let pass = taken_passes ok in
    let same = c.as_slice.ensures ∙ c.degrees-degrees.ensures.all pass.short in
    let long = c.if-coeffs-count.false ∙ ok.counted in
    let x = reduce_accepted s.bitwidth k.coeffs.now ok (eq-eqb _ _ long)
    (reduce_held ds s.bitwidth (taken_small ok) (width_high s.bitwidth pass.width)
    k.coeffs.now _ long (rw same at c.reduce.ensures)) in
    record { says = x.0; leaves = x.1.0; reduces = x.1.1 }
