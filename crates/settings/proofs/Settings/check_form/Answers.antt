-- Settings, then the length.
use Rattle.std.specs.Prelude.{Bool, cond}
use Rattle.std.proofs.Common.{◌∙◌, sym, ap}
use borrow.Author.Tests.{eq-eqb, ne_eqb}
use Rattle.answers.specs.Said.{said_number}
use Rattle.answers.specs.Laws.{handed_on}
use Rattle.settings.specs.Settled.{settled_call, unsettled_call}
use Rattle.settings.specs.Taken.{taken, turned_down}
use Rattle.settings.proofs.Settings.check_form.Goals as goal

pub returns-in_err-count : goal.returns-in_err-count
returns-in_err-count c =
    let s = c.args.self.now in
    let no = turned_down s c.check.ensures c.in_err-count.was in
    ap said_number (handed_on _ c.from_residual.ensures.1) ∙ sym (unsettled_call no _)

pub returns-then-coeffs-count : goal.returns-then-coeffs-count
returns-then-coeffs-count c =
    let s = c.args.self.now in
    let ok = taken s c.check.ensures c.in_ok-count.was in
    sym (settled_call ok _ ∙ ap (λ (b : Bool). cond b 0 9) (ne_eqb _ _ (λ q. c.if-coeffs-count.true (q ∙ sym ok.counted))))

pub returns : goal.returns
returns c =
    let s = c.args.self.now in
    let ok = taken s c.check.ensures c.in_ok-count.was in
    sym (settled_call ok _ ∙ ap (λ (b : Bool). cond b 0 9) (eq-eqb _ _ (c.if-coeffs-count.false ∙ ok.counted)))
