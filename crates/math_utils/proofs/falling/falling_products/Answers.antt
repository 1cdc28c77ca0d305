-- The loop of `falling_product`, whose products so far stand in the table; at a product of zero the rest of the table is zero.
use Rattle.std.proofs.Common.{◌≡◌, ◌+◌, ◌%◌, ◌^◌, length, set, sym, refl, ◌∙◌, arith, length-set}
use Rattle.meaning.specs.Factorials.{falling}
use Rattle.theory.specs.Ranges.{width_pos, width_high}
use Rattle.theory.specs.Tables.{Filled, filled_step}
use Rattle.theory.specs.Parts.{put}
use Rattle.math_utils.proofs.FallingLoops.{product-start, product-low, product-kept, product_next, product_stop, product-zero, product-all, table-start}
use Rattle.math_utils.proofs.FallingLoops.{table-zeros, table_done, products-fit, products_none}
use Rattle.math_utils.proofs.falling.falling_products.Goals as goal

pub returns-then-lent-eq0 : goal.returns-then-lent-eq0
returns-then-lent-eq0 c =
    let p = products_none _ _ (sym c.width_fits.ensures ∙ c.if-not-width_fits.false) _ c.if-lent-eq0.true in
    record { says = p.0; leaves = p.1 }

pub loop-taken-init : goal.loop-taken-init
loop-taken-init c =
    let f = sym c.width_fits.ensures ∙ c.if-not-width_fits.false in
    let low = width_pos _ f in
    (product-start low (width_high _ f) c.bitmask-mask.ensures, table-start _ _ c.args.lent.now (omega (arith, c.if-lent-eq0.false)) low)

pub overflow_sub-x : goal.overflow_sub-x
overflow_sub-x c = product-low c.loop-taken.invariant.0

pub returns-then-low-eq0 : goal.returns-then-low-eq0
returns-then-low-eq0 c =
    let a = c.args in
    let l = c.loop-taken in
    let i = l.invariant in
    let m = c.wrapping_mul-product.ensures in
    let z = c.if-low-eq0.true in
    let first : length (set a.lent.now 0 1) ≡ length a.lent.now = length-set a.lent.now 0 1 in
    let same : length l.lent ≡ length a.lent.now = i.1.same ∙ first in
    let left = put (l.taken + 1) (length l.lent) l.lent c.clear.new.table in
    let stopped : Filled (λ n. falling a.x n % 2 ^ a.bitwidth) (set a.lent.now 0 1) left (length l.lent) =
    table-zeros _ _ _ l.lent _ i.1 (omega (arith, c.loop-taken-test.true, same)) c.clear.ensures (λ k h. product-zero i.0 m h z) in
    let p = products-fit _ _ (sym c.width_fits.ensures ∙ c.if-not-width_fits.false) a.lent.now refl
    (product_stop i.0 m c.loop-taken-test.true z)
    (table_done _ _ _ _ stopped (omega (arith, same)) first) in
    record { says = p.0; leaves = p.1 }

pub loop-taken-preserved : goal.loop-taken-preserved
loop-taken-preserved c =
    let l = c.loop-taken in
    let i = l.invariant in
    let m = c.wrapping_mul-product.ensures in
    let same : length l.lent ≡ length c.args.lent.now = i.1.same ∙ length-set c.args.lent.now 0 1 in (
      product_next i.0 m c.loop-taken-test.true c.if-low-eq0.false,
      filled_step _ _ l.lent (l.taken + 1) _ i.1 (omega (arith, c.loop-taken-test.true, same)) (product-kept i.0 m),
    )

pub returns : goal.returns
returns c =
    let a = c.args in
    let i = c.loop-taken.invariant in
    let p = products-fit _ _ (sym c.width_fits.ensures ∙ c.if-not-width_fits.false) a.lent.now refl (product-all i.0 c.loop-taken-test.false)
    (table_done _ _ _ _ i.1 (omega (arith, c.loop-taken-test.false)) (length-set a.lent.now 0 1)) in
    record { says = p.0; leaves = p.1 }
