-- The settings of a line pass, so that recovery accepts or says 6: `single_refused` closes the one return, `single_accepted`, with 0 written, the other.
use Rattle.std.proofs.Common.{sym, ◌∙◌, ap}
use Rattle.singleton_power_recovery.specs.VariableLines.{single_accepted, single_refused}
use Rattle.answers.specs.Said.{said_number}
use Rattle.answers.specs.Laws.{code-suc, handed_on}
use Rattle.singleton_power_recovery.proofs.recover_line.Goals as goal

pub returns-in_err-recover_multivar_poly : goal.returns-in_err-recover_multivar_poly
returns-in_err-recover_multivar_poly c =
    let a = c.args in
    let p = c.requires in
    let out = c.recover_multivar_poly.new.out in
    let handed = ap said_number (handed_on _ c.from_residual.ensures.1) in
    rw handed
    (single_refused a.bitwidth a.values.now a.out.now p.0 p.1 p.2 p.3 (code-suc _)
    (sym (ap said_number c.in_err-recover_multivar_poly.was) ∙ c.recover_multivar_poly.ensures.says))

pub returns : goal.returns
returns c =
    let a = c.args in
    let p = c.requires in
    let r = c.recover_multivar_poly in
    single_accepted a.bitwidth a.values.now a.out.now p.0 p.1 p.2 p.3
    (sym (ap said_number c.in_ok-recover_multivar_poly.was) ∙ r.ensures.says) r.ensures.leaves
