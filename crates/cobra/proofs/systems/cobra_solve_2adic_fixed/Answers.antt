-- The width and the three lengths are tested first, each refusal by a law of its own. Past them the solver's answer is the answer (`four_solved`).
use Rattle.std.proofs.Common.{◌≡◌, ◌∙◌, sym, ap, ap₂, refl, true, false, ◌&&◌, eqb, length, eq-eqb, ne_eqb, List, ℕ, Result, Ok, Err, replicate, rules}
use Rattle.std.specs.Result.{result_unwrap_or}
use Rattle.meaning.specs.Settings.{fits_width}
use Rattle.answers.specs.declared.Refusal.{Refusal}
use Rattle.two_adic_solver.specs.Fixed.{solved_number, solved_answer}
use Rattle.cobra.specs.Systems.{four_fit}
use Rattle.cobra.proofs.FourLaws.{four_width, four-length, four_solved}
use Rattle.cobra.proofs.systems.cobra_solve_2adic_fixed.Goals.{then-matrix-ne16-via-then-matrix-ne16, then-matrix-ne16-via-else-matrix-ne16+then-right-ne4, then-matrix-ne16-via-else-matrix-ne16+else-right-ne4+then-answer-ne4}
use Rattle.cobra.proofs.systems.cobra_solve_2adic_fixed.Goals as goal

-- zeros beside a refusal
answer_or : (r : Result (List ℕ) Refusal) → result_unwrap_or r (replicate 4 0) ≡ solved_answer r
answer_or (Ok x) = refl
answer_or (Err r) = refl

pub returns-then-not-width_fits : goal.returns-then-not-width_fits
returns-then-not-width_fits c =
    let k = c.args in
    let p = four_width k.width k.matrix.now k.right.now k.answer.now (sym c.width_fits.ensures ∙ c.if-not-width_fits.true) in
    rw c.from.ensures (record { says = p.0; leaves = p.1.0; solves = p.1.1 })

pub returns-then-matrix-ne16 : goal.returns-then-matrix-ne16
returns-then-matrix-ne16 c =
    let k = c.args in
    let m = k.matrix.now in
    let r = k.right.now in
    let a = k.answer.now in
    let fits : fits_width k.width ≡ true = sym c.width_fits.ensures ∙ c.if-not-width_fits.false in
    let wrong : four_fit m r a ≡ false =
    elim c.then-matrix-ne16.branch [
      | then-matrix-ne16-via-then-matrix-ne16 w ↦ ap (◌&& (eqb (length r) 4 && eqb (length a) 4)) (ne_eqb _ _ w.if-matrix-ne16.true)
      | then-matrix-ne16-via-else-matrix-ne16+then-right-ne4 w ↦
          ap₂ ◌&&◌ (eq-eqb _ _ w.if-matrix-ne16.false) (ap (◌&& eqb (length a) 4) (ne_eqb _ _ w.if-right-ne4.true))
      | then-matrix-ne16-via-else-matrix-ne16+else-right-ne4+then-answer-ne4 w ↦
          ap₂ ◌&&◌ (eq-eqb _ _ w.if-matrix-ne16.false) (ap₂ ◌&&◌ (eq-eqb _ _ w.if-right-ne4.false) (ne_eqb _ _ w.if-answer-ne4.true))
    ] in
    let p = four-length k.width m r a fits wrong in
    rw c.from-then-matrix-ne16.ensures (record { says = p.0; leaves = p.1.0; solves = p.1.1 })

pub returns : goal.returns
returns c =
    let k = c.args in
    let s = c.solve_2adic_fixed-found.ensures in
    let fits : fits_width k.width ≡ true = sym c.width_fits.ensures ∙ c.if-not-width_fits.false in
    let number : c.outcome_code.result ≡ solved_number c.solve_2adic_fixed-found.result = search rules in
    let p = four_solved k.width k.matrix.now k.right.now k.answer.now fits
    (ap₂ ◌&&◌ (eq-eqb _ _ c.if-matrix-ne16.false) (ap₂ ◌&&◌ (eq-eqb _ _ c.if-right-ne4.false) (eq-eqb _ _ c.if-answer-ne4.false)))
    c.if-right-ne4.false _ _ _ (number ∙ s.says) s.answer (λ z. s.solves (sym number ∙ z))
    (c.copy_from_slice.ensures.after ∙ c.unwrap_or.ensures ∙ answer_or c.solve_2adic_fixed-found.result) in
    record { says = p.0; leaves = p.1.0; solves = p.1.1 }
