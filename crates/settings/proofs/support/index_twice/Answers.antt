-- The loop keeps: some index stands twice exactly when one of the part from i on is marked or stands twice in it. An index is below 20, so that it has a mark.
use Rattle.std.specs.Prelude.{refl, leb}
use Rattle.std.proofs.Common.{◌∙◌, sym, length-set, arith}
use borrow.Author.Tests.{leb-false}
use Rattle.settings.specs.Indices.{some-false-at, again-start, again-found, again_next, again-end}
use Rattle.settings.proofs.support.index_twice.Goals as goal

pub loop-index-init : goal.loop-index-init
loop-index-init c = (again-start 20 _, refl)

pub bounds-seen-place : goal.bounds-seen-place
bounds-seen-place c = (let k = c.args in let few = c.requires in omega (arith, few.0, leb-false k.total _ (some-false-at (leb k.total) k.support.now c.loop-index.index-index c.loop-index-test.true few.1)))

pub returns-then-seen-place : goal.returns-then-seen-place
returns-then-seen-place c =
    let k = c.args in
    sym (c.loop-index.invariant.0 ∙ again-found c.loop-index.seen k.support.now c.loop-index.index-index c.loop-index-test.true c.if-seen-place.true)

pub bounds-seen-place-in-loop-index : goal.bounds-seen-place-in-loop-index
bounds-seen-place-in-loop-index c = (let k = c.args in let few = c.requires in omega (arith, few.0, leb-false k.total _ (some-false-at (leb k.total) k.support.now c.loop-index.index-index c.loop-index-test.true few.1)))

pub loop-index-preserved : goal.loop-index-preserved
loop-index-preserved c =
    let k = c.args in (
      c.loop-index.invariant.0
          ∙ again_next c.loop-index.seen k.support.now c.loop-index.index-index c.loop-index-test.true (rw c.loop-index.invariant.1 ((let k = c.args in let few = c.requires in omega (arith, few.0, leb-false k.total _ (some-false-at (leb k.total) k.support.now c.loop-index.index-index c.loop-index-test.true few.1))))) c.if-seen-place.false,
      simp length-set c.loop-index.invariant.1,
    )

pub returns : goal.returns
returns c =
    let k = c.args in
    sym (c.loop-index.invariant.0 ∙ again-end c.loop-index.seen k.support.now c.loop-index.index-index c.loop-index-test.false)
