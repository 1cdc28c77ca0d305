-- Settings, then lengths, then the value, which is asked for with a table of few falling products.
use Rattle.std.proofs.Common.{ℕ, ◌+◌, ◌^◌, ◌<◌, ◌&&◌, eqb, List, length, replicate, sym, ap, ◌∙◌, ap₂, arith, eq-eqb, ne_eqb}
use Rattle.std.proofs.Math.ListN.{get_or-replicate, length-replicate}
use Rattle.meaning.specs.Tables.{at}
use Rattle.meaning.specs.Values.{value}
use Rattle.poly.proofs.FewProducts.{products_few}
use Rattle.poly.proofs.Replies.{value_turned, value-lengths, value-accepted}
use Rattle.settings.specs.Taken.{taken, turned_down, taken_passes, taken_small}
use Rattle.answers.specs.Laws.{handed_on}
use Rattle.poly.proofs.value.Goals as goal

-- a degree is below the number of places for each coordinate
degree_below : (n d j : ℕ) → j < n → at (replicate n d) j < d + 1
degree_below n d j h = rw (get_or-replicate n j d 0 h) (omega arith)

pub returns-then-coeffs-count : goal.returns-then-coeffs-count
returns-then-coeffs-count c =
    let k = c.args in
    let s = k.settings.now in
    let ok = taken s c.check.ensures c.in_ok-count.was in
    let x = value-lengths s.bitwidth k.coeffs.now k.point.now ok
    (ap (◌&& eqb (length k.point.now) (length s.support.now)) (ne_eqb _ _ (λ q. c.if-coeffs-count.true (q ∙ sym ok.counted)))) in
    record { says = x.0; values = x.1 }

pub returns-then-point-settings : goal.returns-then-point-settings
returns-then-point-settings c =
    let k = c.args in
    let s = k.settings.now in
    let ok = taken s c.check.ensures c.in_ok-count.was in
    let long = c.if-coeffs-count.false ∙ ok.counted in
    let x = value-lengths s.bitwidth k.coeffs.now k.point.now ok (ap₂ ◌&&◌ (eq-eqb _ _ long) (ne_eqb _ _ c.if-point-settings.true)) in
    record { says = x.0; values = x.1 }

pub value_at-requires : goal.value_at-requires
value_at-requires c =
    let s = c.args.settings.now in
    let ok = taken s c.check.ensures c.in_ok-count.was in
    let pass = taken_passes ok in
    let lent = c.as_slice.ensures ∙ c.degrees-degrees.ensures.all pass.short in
    let n = length s.support.now in
    let long = length-replicate n s.max_degree in
    rw lent (record {
      shape = record {
        some = rw long pass.not_empty;
        whole = c.if-coeffs-count.false ∙ ok.counted;
        below = λ j h. degree_below n s.max_degree j (rw long at h);
      };
      fits = pass.width;
      same = c.if-point-settings.false ∙ sym long;
      few = rw long (products_few n s.max_degree pass.short (omega (arith, c.fits-settings)) (taken_small ok));
    })

pub returns-in_err-count : goal.returns-in_err-count
returns-in_err-count c =
    let k = c.args in
    let s = k.settings.now in
    let x = value_turned s.bitwidth k.coeffs.now k.point.now (turned_down s c.check.ensures c.in_err-count.was) in
    rw (handed_on _ c.from_residual.ensures.1) (record { says = x.0; values = x.1 })

pub returns : goal.returns
returns c =
    let k = c.args in
    let s = k.settings.now in
    let ok = taken s c.check.ensures c.in_ok-count.was in
    let pass = taken_passes ok in
    let long = c.if-coeffs-count.false ∙ ok.counted in
    let x = value-accepted s.bitwidth k.coeffs.now k.point.now ok (ap₂ ◌&&◌ (eq-eqb _ _ long) (eq-eqb _ _ c.if-point-settings.false))
    (c.value_at.ensures
    ∙ ap (λ (l : List ℕ). value (2 ^ s.bitwidth) l k.coeffs.now k.point.now) (c.as_slice.ensures ∙ c.degrees-degrees.ensures.all pass.short)) in
    record { says = x.0; values = x.1 }
