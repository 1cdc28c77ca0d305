-- The loop multiplies one entry after the other, and stops at one that is zero.
use Rattle.std.proofs.Common.{◌∙◌, arith}
use Rattle.std.proofs.lemmas.List.{set-get_or}
use Rattle.weighted_poly_fit.proofs.MatrixRows.{weighed_next, weighed_stop, weighed_done}
use Rattle.weighted_poly_fit.proofs.matrix.weigh.Goals as goal

pub returns-then-entry-eq0 : goal.returns-then-entry-eq0
returns-then-entry-eq0 c =
    let l = c.loop-entry in
    set-get_or l.row l.entry-index 0 ∙ weighed_stop l.invariant c.requires.0 (omega (arith, l.invariant.filled.same)) c.if-entry-eq0.true

pub loop-entry-preserved : goal.loop-entry-preserved
loop-entry-preserved c = weighed_next c.loop-entry.invariant (omega (arith, c.loop-entry.invariant.filled.same)) _ c.wrapping_mul.ensures

pub returns : goal.returns
returns c = weighed_done c.loop-entry.invariant (omega (arith, c.loop-entry.invariant.filled.same))
