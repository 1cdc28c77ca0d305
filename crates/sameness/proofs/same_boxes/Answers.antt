-- With equal settings one comparison serves both ways. Else a walk over each form, of which one is enough where the other form's box lies within.
use Rattle.std.proofs.Common.{sym, ◌∙◌}
use Rattle.sameness.proofs.BothWays.{walked-matched, covered, straight, first_decides, second_fails}
use Rattle.sameness.proofs.same_boxes.Goals as goal

pub returns-then-has_box_of : goal.returns-then-has_box_of
returns-then-has_box_of c total q q' =
    let k = c.args in
    let p = k.form1.now.boxed in
    let p' = k.form2.now.boxed in
    let e = c.has_box_of.ensures c.if-has_box_of.true in
    straight total k.bits p p' q q' e.0 e.1 c.requires _ c.agree.ensures

pub returns-then-lies_within : goal.returns-then-lies_within
returns-then-lies_within c total q q' =
    let k = c.args in
    let p = k.form1.now.boxed in
    let p' = k.form2.now.boxed in
    c.matched_in.ensures
    ∙ walked-matched total k.bits p p' q q'
    ∙ first_decides _ _ (covered total k.bits p p' q q' (sym c.lies_within.ensures ∙ c.if-lies_within.true))

pub returns-then-not-matched_in : goal.returns-then-not-matched_in
returns-then-not-matched_in c total q q' =
    let k = c.args in
    let p = k.form1.now.boxed in
    let p' = k.form2.now.boxed in
    let second = c.matched_in-2.ensures ∙ walked-matched total k.bits p' p q' q in
    second_fails _ (sym second ∙ c.if-not-matched_in.true)

pub returns-then-lies_within-2 : goal.returns-then-lies_within-2
returns-then-lies_within-2 c total q q' =
    let k = c.args in
    let p = k.form1.now.boxed in
    let p' = k.form2.now.boxed in
    let both = sym (c.matched_in-2.ensures ∙ walked-matched total k.bits p' p q' q) ∙ c.if-not-matched_in.false in
    let first = covered total k.bits p' p q' q (sym c.lies_within-2.ensures ∙ c.if-lies_within-2.true) both in
    sym first ∙ first_decides _ _ (λ h. both)

pub returns : goal.returns
returns c total q q' =
    let k = c.args in
    let p = k.form1.now.boxed in
    let p' = k.form2.now.boxed in
    let both = sym (c.matched_in-2.ensures ∙ walked-matched total k.bits p' p q' q) ∙ c.if-not-matched_in.false in
    c.matched_in-3.ensures ∙ walked-matched total k.bits p p' q q' ∙ first_decides _ _ (λ h. both)
