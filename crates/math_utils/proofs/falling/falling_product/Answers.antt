-- The loop has the product of the factors that were taken, none of which so far is zero modulo 2^w; so none is cut at 0. At a product of zero all that
-- follow are zero.
use Rattle.std.proofs.Common.{sym, ◌∙◌, arith}
use Rattle.theory.specs.Ranges.{width_pos, width_high}
use Rattle.math_utils.proofs.FallingLoops.{product-start, product-low, product_next, product_stop, product-zero, product-all, product_whole, falling-fits}
use Rattle.math_utils.proofs.FallingLoops.{said_stops}
use Rattle.math_utils.proofs.falling.falling_product.Goals as goal

pub returns-then-not-width_fits-clause-stops : goal.returns-then-not-width_fits-clause-stops
returns-then-not-width_fits-clause-stops c = (said_stops _ (simp (sym c.width_fits.ensures ∙ c.if-not-width_fits.true))).1

pub loop-taken-init : goal.loop-taken-init
loop-taken-init c =
    let f = sym c.width_fits.ensures ∙ c.if-not-width_fits.false in product-start (width_pos _ f) (width_high _ f) c.bitmask-mask.ensures

pub overflow_sub-x : goal.overflow_sub-x
overflow_sub-x c = product-low c.loop-taken.invariant

pub returns-then-product-mask-eq0 : goal.returns-then-product-mask-eq0
returns-then-product-mask-eq0 c =
    let a = c.args in
    let f = sym c.width_fits.ensures ∙ c.if-not-width_fits.false in
    let i = c.loop-taken.invariant in
    let m = c.wrapping_mul-product.ensures in
    let z = c.if-product-mask-eq0.true in
    let p = said_stops _
    (falling-fits a.bitwidth a.x f a.n (sym (product-zero i m (omega arith) z)) (product_stop i m c.loop-taken-test.true z)) in
    record { says = p.0; stops = p.1 }

pub loop-taken-preserved : goal.loop-taken-preserved
loop-taken-preserved c =
    product_next c.loop-taken.invariant c.wrapping_mul-product.ensures c.loop-taken-test.true c.if-product-mask-eq0.false

pub returns : goal.returns
returns c =
    let a = c.args in
    let f = sym c.width_fits.ensures ∙ c.if-not-width_fits.false in
    let i = c.loop-taken.invariant in
    let h = c.loop-taken-test.false in
    let p = said_stops _ (falling-fits a.bitwidth a.x f a.n (product_whole i h) (product-all i h)) in
    record { says = p.0; stops = p.1 }
