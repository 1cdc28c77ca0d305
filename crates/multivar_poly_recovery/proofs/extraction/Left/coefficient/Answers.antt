-- Four returns, a lemma of `Cells` for each: without ones the difference is 0 or not, with some it survives the shifts or not.
use Rattle.std.proofs.Common.{◌≡◌, ℕ, ◌-◌, ◌^◌, ◌<◌, sym, ap, ◌∙◌, arith}
use Rattle.multivar_poly_recovery.proofs.Cells.{heavy_zero, heavy_refused, light_refused, light_passes, mask_none, mask-some}
use Rattle.multivar_poly_recovery.proofs.extraction.Left.coefficient.Goals as goal

pub returns-then-kept-eq0 : goal.returns-then-kept-eq0
returns-then-kept-eq0 c q e =
    let a = c.args in
    let none = mask_none _ (sym a.low.mask ∙ c.if-low-eq0.true) in
    heavy_zero a.x a.self.width _ a.self.high c.bitmask.ensures q _ (omega (arith, none)) c.if-kept-eq0.true

pub returns-then-low-eq0 : goal.returns-then-low-eq0
returns-then-low-eq0 c q e =
    let a = c.args in
    let none = mask_none _ (sym a.low.mask ∙ c.if-low-eq0.true) in
    heavy_refused a.x a.self.width _ a.self.high c.bitmask.ensures q _ (omega (arith, none)) c.if-kept-eq0.false

pub returns-then-high-q : goal.returns-then-high-q
returns-then-high-q c q e =
    let a = c.args in
    let some : 0 < a.low.bits = mask-some _ (λ z. c.if-low-eq0.false (a.low.mask ∙ z)) in
    let light : q < a.self.width = omega (arith, some) in
    let shift : a.self.width - a.low.bits ≡ q = omega (arith, light) in
    light_refused a.x a.self.width _ a.self.high c.bitmask.ensures q _ light _ shift c.if-high-q.true

pub returns : goal.returns
returns c q e =
    let a = c.args in
    let some : 0 < a.low.bits = mask-some _ (λ z. c.if-low-eq0.false (a.low.mask ∙ z)) in
    let light : q < a.self.width = omega (arith, some) in
    let shift : a.self.width - a.low.bits ≡ q = omega (arith, light) in
    light_passes a.x a.self.width _ a.self.high c.bitmask.ensures q _ light _ shift _ _ c.if-high-q.false c.wrapping_mul.ensures
    (a.low.mask ∙ ap (λ (k : ℕ). 2 ^ k - 1) e)
