use Rattle.std.proofs.Common.{arith, sym}
use Rattle.box_rows.specs.Walks.{walk_left, walk_over}
use Rattle.box_rows.specs.Tested.{tested_start, tested_fails, tested_next, tested-done}
use Rattle.sameness.proofs.WalkTurns.{match_none, matching_turn}
use Rattle.sameness.proofs.walk.Part.+matches.Goals as goal

pub returns-then-self-eq0 : goal.returns-then-self-eq0
returns-then-self-eq0 t c =
    let p = c.args.self.now in
    sym (match_none p.bits _ p.coeffs.now _ _ c.args.other.now p.place c.if-self-eq0.true)

pub loop-e-init : goal.loop-e-init
loop-e-init t c = let p = c.args.self.now in tested_start _ _ _ _ p.walkable.whole p.walkable.some

pub returns-then-not-matches : goal.returns-then-not-matches
returns-then-not-matches t c =
    let p = c.args.self.now in
    let l = c.loop-e in
    let h = walk_left l.invariant.walk (omega (arith, c.loop-e-test.true)) in
    let said = matching_turn p.partners.now p.walkable c.args.other.now l.invariant h c.index-self-last.result c.way.ensures.leads c.matches.ensures in
    sym (tested_fails l.invariant h _ said c.if-not-matches.true)

pub loop-e-preserved : goal.loop-e-preserved
loop-e-preserved t c =
    let p = c.args.self.now in
    let l = c.loop-e in
    let h = walk_left l.invariant.walk (omega (arith, c.loop-e-test.true)) in
    let said = matching_turn p.partners.now p.walkable c.args.other.now l.invariant h c.index-self-last.result c.way.ensures.leads c.matches.ensures in
    tested_next l.invariant h _ said _ c.if-not-matches.false c.bits_left-left.ensures

pub returns : goal.returns
returns t c = sym (tested-done c.loop-e.invariant (walk_over c.loop-e.invariant.walk (omega (arith, c.loop-e-test.false))))
