-- A refusal of the check is passed on, and offsets that are not one for each support variable are refused, with `out` as it was. Else the three steps leave the
-- moved form (`moved_of_steps`). The promise follows from the number and what is left.
use borrow.Author.Tests.{eq-eqb, ne_eqb}
use Rattle.std.specs.Prelude.{◌≡◌, refl, Bool, false, cond, List, ℕ, eqb, length}
use Rattle.std.proofs.Common.{sym, ◌∙◌, ap}
use Rattle.meaning.specs.Settings.{first}
use Rattle.meaning.specs.Datum.{moved}
use Rattle.meaning.specs.Calls.{in_out_number, move_number, move_left, left}
use Rattle.theory.specs.AcceptedCalls.{ready}
use Rattle.demand3.proofs.BoxCalls.{datum_moved}
use Rattle.answers.specs.Laws.{handed_on, first_code, left-code}
use Rattle.settings.specs.declared.Settings.{Settings}
use Rattle.settings.specs.Forms.{degrees_of}
use Rattle.datum.proofs.MoveSteps.{move_number-eq, variables_few, moved_of_steps}
use Rattle.datum.proofs.move_datum.Goals as goal

module _ (s : Settings) (c os out : List ℕ) where
  abbrev number : ℕ
  number = move_number s.total s.bitwidth s.support.now (degrees_of s) c os out

  -- the number is the check's, or that of the offsets
  number-eq : {n : ℕ} → n ≡ in_out_number false s.total s.bitwidth s.support.now (degrees_of s) c out
      → number ≡ first n (cond (eqb (length os) (length s.support.now)) 0 9)
  number-eq e =
      move_number-eq s.total s.bitwidth s.support.now (degrees_of s) c os out
      ∙ ap (λ (n : ℕ). first n (cond (eqb (length os) (length s.support.now)) 0 9)) (sym e)

  -- what is left by a number, and the promise
  leaves : {n : ℕ} → number ≡ n → move_left s.total s.bitwidth s.support.now (degrees_of s) c os out
      ≡ left n (moved s.bitwidth (degrees_of s) c os) out
  unfolding move_left
  leaves e = ap (λ (i : ℕ). left i (moved s.bitwidth (degrees_of s) c os) out) e

pub returns-in_err-check_tables : goal.returns-in_err-check_tables
returns-in_err-check_tables c =
    let k = c.args in
    let s = k.settings.now in
    let r = c.in_err-check_tables.field-0.0 in
    let n = number-eq s k.coeffs.now k.offsets.now k.out.now c.in_err-check_tables.ensures ∙ first_code r _ refl in
    let t = sym (leaves s k.coeffs.now k.offsets.now k.out.now n ∙ left-code r _ _ refl) in
    rw (handed_on _ c.from_residual.ensures.1)
    (record { says = sym n; leaves = t; moves = datum_moved s.total s.bitwidth s.support.now (degrees_of s) k.coeffs.now k.offsets.now k.out.now (sym n) t })

pub returns-then-offsets-settings : goal.returns-then-offsets-settings
returns-then-offsets-settings c =
    let k = c.args in
    let s = k.settings.now in
    let n = number-eq s k.coeffs.now k.offsets.now k.out.now c.in_ok-check_tables.ensures ∙ ap (λ (b : Bool). cond b 0 9) (ne_eqb _ _ c.if-offsets-settings.true) in
    let t = sym (leaves s k.coeffs.now k.offsets.now k.out.now n) in
    record { says = sym n; leaves = t; moves = datum_moved s.total s.bitwidth s.support.now (degrees_of s) k.coeffs.now k.offsets.now k.out.now (sym n) t }

pub returns : goal.returns
returns c =
    let k = c.args in
    let s = k.settings.now in
    let n = number-eq s k.coeffs.now k.offsets.now k.out.now c.in_ok-check_tables.ensures ∙ ap (λ (b : Bool). cond b 0 9) (eq-eqb _ _ c.if-offsets-settings.false) in
    let ok = ready false s.total s.bitwidth s.support.now (degrees_of s) k.coeffs.now k.out.now (sym c.in_ok-check_tables.ensures) in
    let all = c.degrees-degrees.ensures.all (variables_few k.offsets.now ok) in
    let copied : c.copy.new.to ≡ k.coeffs.now = c.copy.ensures ∙ simp (eq-eqb _ _ (ok.given_length ∙ sym ok.out_length)) in
    let t = moved_of_steps k.offsets.now ok _ _ _ copied (rw (c.as_slice.ensures ∙ all) at c.move_all.ensures) (rw (c.as_slice-2.ensures ∙ all) at c.reduce.ensures)
    ∙ sym (leaves s k.coeffs.now k.offsets.now k.out.now n) in
    record { says = sym n; leaves = t; moves = datum_moved s.total s.bitwidth s.support.now (degrees_of s) k.coeffs.now k.offsets.now k.out.now (sym n) t }
