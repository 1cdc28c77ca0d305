-- The tests before entry i pass, and the mask is that of entry i. The tests of the line are those of the box (`match_line`).
use Rattle.std.proofs.Common.{refl, sym, ◌∙◌, eq-eqb, ne_eqb}
use Rattle.theory.specs.Every.{passed_start, passed-one, passed-one_fails, passed_done}
use Rattle.box_rows.specs.Lines.{line-start, line_next}
use Rattle.sameness.proofs.WalkTurns.{line_told, match_line}
use Rattle.sameness.proofs.walk.Part.matches_line.Goals as goal

pub loop-i-init : goal.loop-i-init
loop-i-init c = (passed_start _ _, line-start _ _ c.args.self.now.walkable.few c.bitmask-mask.ensures)

pub returns-then-coefficient-mask : goal.returns-then-coefficient-mask
returns-then-coefficient-mask c =
    let p = c.args.self.now in
    let l = c.loop-i in
    let told = line_told p.bits p.coeffs.now _ _ c.args.other.now p.place l.i l.mask _ _ l.invariant.1 c.found-there.ensures c.way.ensures.leads in
    sym (passed-one_fails l.invariant.0 c.loop-i-test.true (told ∙ ne_eqb _ _ c.if-coefficient-mask.true))
    ∙ match_line p.bits _ p.coeffs.now p.partners.now c.args.other.now p.place c.index-self-0.result c.requires p.walkable

pub loop-i-preserved : goal.loop-i-preserved
loop-i-preserved c =
    let p = c.args.self.now in
    let l = c.loop-i in
    let told = line_told p.bits p.coeffs.now _ _ c.args.other.now p.place l.i l.mask _ _ l.invariant.1 c.found-there.ensures c.way.ensures.leads in (
      passed-one l.invariant.0 c.loop-i-test.true (told ∙ eq-eqb _ _ c.if-coefficient-mask.false),
      c.next_mask-mask.ensures ∙ line_next _ l.i l.mask _ l.invariant.1 refl,
    )

pub returns : goal.returns
returns c =
    let p = c.args.self.now in
    sym (passed_done c.loop-i.invariant.0 c.loop-i-test.false)
    ∙ match_line p.bits _ p.coeffs.now p.partners.now c.args.other.now p.place c.index-self-0.result c.requires p.walkable
