-- Settings, then the three lengths, then the walk.
use Rattle.std.proofs.Common.{Bool, ◌&&◌, eqb, length, sym, ap, ◌∙◌, ap₂, eq-eqb, ne_eqb}
use Rattle.meaning.specs.Boxes.{cells}
use Rattle.box_rows.specs.Held.{sum-held}
use Rattle.theory.specs.Ranges.{width_high}
use Rattle.poly.proofs.Replies.{sum_turned, sum-lengths, sum-accepted}
use Rattle.settings.specs.Forms.{degrees_of}
use Rattle.settings.specs.Taken.{taken, turned_down, taken_passes, taken_small}
use Rattle.answers.specs.Laws.{handed_on}
use Rattle.poly.proofs.sum.Goals as goal

pub returns-then-a-count : goal.returns-then-a-count
returns-then-a-count c =
    let k = c.args in
    let s = k.settings.now in
    let ds = degrees_of s in
    let ok = taken s c.check.ensures c.in_ok-count.was in
    let x = sum-lengths s.bitwidth k.a.now k.b.now k.out.now ok
    (ap (λ (t : Bool). t && eqb (length k.b.now) (cells ds) && eqb (length k.out.now) (cells ds))
    (ne_eqb _ _ (λ q. c.if-a-count.true (q ∙ sym ok.counted)))) in
    record { says = x.0; leaves = x.1.0; sums = x.1.1 }

pub returns-then-b-count : goal.returns-then-b-count
returns-then-b-count c =
    let k = c.args in
    let s = k.settings.now in
    let ds = degrees_of s in
    let ok = taken s c.check.ensures c.in_ok-count.was in
    let x = sum-lengths s.bitwidth k.a.now k.b.now k.out.now ok
    (ap (◌&& eqb (length k.out.now) (cells ds))
    (ap₂ ◌&&◌ (eq-eqb _ _ (c.if-a-count.false ∙ ok.counted)) (ne_eqb _ _ (λ q. c.if-b-count.true (q ∙ sym ok.counted))))) in
    record { says = x.0; leaves = x.1.0; sums = x.1.1 }

pub returns-then-out-count : goal.returns-then-out-count
returns-then-out-count c =
    let k = c.args in
    let s = k.settings.now in
    let ok = taken s c.check.ensures c.in_ok-count.was in
    let x = sum-lengths s.bitwidth k.a.now k.b.now k.out.now ok
    (ap₂ ◌&&◌ (ap₂ ◌&&◌ (eq-eqb _ _ (c.if-a-count.false ∙ ok.counted)) (eq-eqb _ _ (c.if-b-count.false ∙ ok.counted)))
    (ne_eqb _ _ (λ q. c.if-out-count.true (q ∙ sym ok.counted)))) in
    record { says = x.0; leaves = x.1.0; sums = x.1.1 }

pub returns-in_err-count : goal.returns-in_err-count
returns-in_err-count c =
    let k = c.args in
    let s = k.settings.now in
    let x = sum_turned s.bitwidth k.a.now k.b.now k.out.now (turned_down s c.check.ensures c.in_err-count.was) in
    rw (handed_on _ c.from_residual.ensures.1) (record { says = x.0; leaves = x.1.0; sums = x.1.1 })

pub returns : goal.returns
returns c =
    let k = c.args in
    let s = k.settings.now in
    let ds = degrees_of s in
    let ok = taken s c.check.ensures c.in_ok-count.was in
    let pass = taken_passes ok in
    let same = c.as_slice.ensures ∙ c.degrees-degrees.ensures.all pass.short in
    let ea = c.if-a-count.false ∙ ok.counted in
    let eb = c.if-b-count.false ∙ ok.counted in
    let eo = c.if-out-count.false ∙ ok.counted in
    let x = sum-accepted s.bitwidth k.a.now k.b.now k.out.now ok (ap₂ ◌&&◌ (ap₂ ◌&&◌ (eq-eqb _ _ ea) (eq-eqb _ _ eb)) (eq-eqb _ _ eo))
    (sum-held ds s.bitwidth (taken_small ok) (width_high s.bitwidth pass.width)
    k.a.now k.b.now k.out.now _ ea eb eo (rw same at c.sum.ensures)) in
    record { says = x.0; leaves = x.1.0; sums = x.1.1 }
