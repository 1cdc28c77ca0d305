-- A refusal of `check_tables` is passed on, with `out` as it was. Where it accepts there are at most twenty variables, and `recover_from_grid` decides.
use Rattle.std.proofs.Common.{◌≡◌, ℕ, true, cond, List, sym, ap, ◌∙◌, arith}
use Rattle.meaning.specs.Tables.{tabulate}
use Rattle.meaning.specs.Boxes.{cells}
use Rattle.meaning.specs.Recovery.{accepts, answer}
use Rattle.meaning.specs.Settings.{first}
use Rattle.meaning.specs.Calls.{recovery_number, recovery_left, left}
use Rattle.theory.specs.AcceptedCalls.{Ready, ready}
use Rattle.theory.specs.Ranges.{width_pos}
use Rattle.answers.specs.Laws.{handed_on, first_code, left-code}
use Rattle.settings.specs.Causes.{ready_passes, ready_high}
use Rattle.settings.specs.Forms.{degrees_of}
use Rattle.multivar_poly_recovery.proofs.grid.recover_checked.Goals as goal
use Rattle.multivar_poly_recovery.proofs.grid.recover_checked.Goals.{After-as_slice}

-- what recovery leaves where settings and lengths pass
abbrev recovered : ℕ → List ℕ → List ℕ → List ℕ
recovered w v ds = cond (accepts w ds v) (answer w ds v) (tabulate (cells ds) (λ i. 0))

-- they pass, and the degrees are those of the settings
passed : (c : After-as_slice) → let s = c.args.settings.now in Ready true s.total s.bitwidth s.support.now (degrees_of s) c.args.values.now c.args.out.now
passed c = ready _ _ _ _ _ _ _ (sym c.in_ok-check_tables.ensures)

degrees : (c : After-as_slice) → c.as_slice.result.now ≡ degrees_of c.args.settings.now
degrees c = c.as_slice.ensures ∙ c.degrees-degrees.ensures.all (ready_passes (passed c)).short

pub recover_from_grid-requires : goal.recover_from_grid-requires
recover_from_grid-requires c =
    let k = (goal.at.recover_from_grid-requires c).After-as_slice in
    let r = passed k in
    rw (degrees k) (r.given_length, r.out_length, omega (arith, width_pos c.args.settings.now.bitwidth (ready_passes r).width), ready_high r)

pub returns-in_err-check_tables : goal.returns-in_err-check_tables
unfolding recovery_number recovery_left
returns-in_err-check_tables c =
    let n = sym c.in_err-check_tables.ensures in
    let r = c.in_err-check_tables.field-0.0 in
    rw (handed_on _ c.from_residual.ensures.1) (record { says = sym (first_code r _ n); leaves = sym (left-code r _ _ n) })

pub returns-clause-says : goal.returns-clause-says
unfolding recovery_number
returns-clause-says c =
    let s = c.args.settings.now in
    let v = c.args.values.now in
    c.recover_from_grid.ensures.says
    ∙ ap (λ (ds : List ℕ). cond (accepts s.bitwidth ds v) 0 6) (degrees (goal.at.returns-clause-says c).After-as_slice)
    ∙ ap (λ (i : ℕ). first i (cond (accepts s.bitwidth (degrees_of s) v) 0 6)) c.in_ok-check_tables.ensures

pub returns-clause-leaves : goal.returns-clause-leaves
unfolding recovery_left
returns-clause-leaves c =
    let s = c.args.settings.now in
    let v = c.args.values.now in
    c.recover_from_grid.ensures.leaves
    ∙ ap (recovered s.bitwidth v) (degrees (goal.at.returns-clause-leaves c).After-as_slice)
    ∙ ap (λ (i : ℕ). left i (recovered s.bitwidth v (degrees_of s)) c.args.out.now) c.in_ok-check_tables.ensures
