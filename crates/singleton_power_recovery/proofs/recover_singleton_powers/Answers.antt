-- Each refusal is the first cause, by the tests that were passed before it: 2, 3, 9 for the values, 9 for `out`. Then the lines decide: the answers, or 6
-- and zeros.
use Rattle.std.proofs.Common.{◌≡◌, ℕ, ◌*◌, ◌⊎◌, inl, inr, Bool, cond, List, length, sym, ap, ◌∙◌, arith}
use Rattle.std.specs.Prelude.{⊤, Result, eqb}
use Rattle.meaning.specs.Tables.{tabulate}
use Rattle.meaning.specs.Singletons.{singleton_settings, singleton_number, singleton_left}
use Rattle.answers.specs.declared.Refusal.{Refusal}
use Rattle.answers.specs.Said.{said_number}
use Rattle.singleton_power_recovery.specs.VariableLines.{Singles, too_many, bad_width, wrong_given, wrong_out, settings_pass, settings-number}
use Rattle.singleton_power_recovery.specs.VariableLines.{settings-left, singles_number, singles_left}
use Rattle.singleton_power_recovery.proofs.Caps.{Capped, capped, uncapped, capped_long, capped_short, capped_count, refused_number, accepted_number}
use Rattle.singleton_power_recovery.proofs.recover_singleton_powers.Goals as goal

module _ {n w size : ℕ} (k : Capped n w size) (v out : List ℕ) where
  -- a table of another length
  wrong_length : (length v ≡ n * size → ⊥) ⊎ ((length v ≡ n * size) × (length out ≡ n * size → ⊥)) → singleton_settings n w v out ≡ 9
  wrong_length (inl h) = wrong_given n w v out k.few k.fits (λ q. h (q ∙ ap (n *◌) (sym k.cap)))
  wrong_length (inr h) = wrong_out n w v out k.few k.fits (h.0 ∙ ap (n *◌) k.cap) (λ q. h.1 (q ∙ ap (n *◌) (sym k.cap)))

  -- both as they have to be: the lines decide
  module _ (given : length v ≡ n * size) (room : length out ≡ n * size) (lines : Result ⊤ Refusal) {t : List ℕ}
      (s : Singles w size n v t (said_number lines)) where
    none : singleton_settings n w v out ≡ 0
    none = settings_pass n w v out k.few k.fits (given ∙ ap (n *◌) k.cap) (room ∙ ap (n *◌) k.cap)

    decided_number : said_number lines ≡ singleton_number n w v out
    decided_number = sym (singles_number n w v out none k.cap s)

    decided_left : {b : Bool} → eqb (said_number lines) 0 ≡ b → cond b t (tabulate (n * size) (λ j. 0)) ≡ singleton_left n w v out
    decided_left e = ap (λ (b : Bool). cond b t (tabulate (n * size) (λ j. 0))) (sym e) ∙ sym (singles_left n w v out none k.cap s)

pub returns-then-num_vars-gt20-clause-says : goal.returns-then-num_vars-gt20-clause-says
returns-then-num_vars-gt20-clause-says c =
    let k = c.args in
    sym (settings-number _ _ _ _ 1 (too_many k.num_vars k.bitwidth k.values.now k.out.now c.if-num_vars-gt20.true))

pub returns-then-num_vars-gt20-clause-leaves : goal.returns-then-num_vars-gt20-clause-leaves
returns-then-num_vars-gt20-clause-leaves c =
    let k = c.args in
    sym (settings-left _ _ _ _ 1 (too_many k.num_vars k.bitwidth k.values.now k.out.now c.if-num_vars-gt20.true))

pub returns-in_default-clause-says : goal.returns-in_default-clause-says
returns-in_default-clause-says c =
    let k = c.args in
    let width = uncapped k.bitwidth c.degree_cap.ensures c.in_default.is in
    sym (settings-number _ _ _ _ 2 (bad_width k.num_vars k.bitwidth k.values.now k.out.now c.if-num_vars-gt20.false width))

pub returns-in_default-clause-leaves : goal.returns-in_default-clause-leaves
returns-in_default-clause-leaves c =
    let k = c.args in
    let width = uncapped k.bitwidth c.degree_cap.ensures c.in_default.is in
    sym (settings-left _ _ _ _ 2 (bad_width k.num_vars k.bitwidth k.values.now k.out.now c.if-num_vars-gt20.false width))

pub overflow_mul-count : goal.overflow_mul-count
overflow_mul-count c =
    let cap = capped c.args.bitwidth c.if-num_vars-gt20.false c.degree_cap.ensures c.in-Ok.is in omega (arith, capped_count cap)

pub returns-then-values-count-clause-says : goal.returns-then-values-count-clause-says
returns-then-values-count-clause-says c =
    let k = c.args in
    let cap = capped k.bitwidth c.if-num_vars-gt20.false c.degree_cap.ensures c.in-Ok.is in
    sym (settings-number _ _ _ _ 8 (wrong_length cap k.values.now k.out.now c.then-values-count.either))

pub returns-then-values-count-clause-leaves : goal.returns-then-values-count-clause-leaves
returns-then-values-count-clause-leaves c =
    let k = c.args in
    let cap = capped k.bitwidth c.if-num_vars-gt20.false c.degree_cap.ensures c.in-Ok.is in
    sym (settings-left _ _ _ _ 8 (wrong_length cap k.values.now k.out.now c.then-values-count.either))

pub recover_lines-outcome-requires : goal.recover_lines-outcome-requires
recover_lines-outcome-requires c =
    let cap = capped c.args.bitwidth c.if-num_vars-gt20.false c.degree_cap.ensures c.in-Ok.is in
    (cap.fits, capped_long cap, omega (arith, capped_short cap), c.if-out-count.false ∙ sym c.if-values-count.false)

pub returns-then-is_err-clause-says : goal.returns-then-is_err-clause-says
returns-then-is_err-clause-says c =
    let k = c.args in
    let cap = capped k.bitwidth c.if-num_vars-gt20.false c.degree_cap.ensures c.in-Ok.is in
    let lines = c.recover_lines-outcome in
    decided_number cap k.values.now k.out.now c.if-values-count.false c.if-out-count.false lines.result (lines.ensures k.num_vars c.if-values-count.false)

pub returns-else-is_err-clause-says : goal.returns-else-is_err-clause-says
returns-else-is_err-clause-says c =
    let k = c.args in
    let cap = capped k.bitwidth c.if-num_vars-gt20.false c.degree_cap.ensures c.in-Ok.is in
    let lines = c.recover_lines-outcome in
    decided_number cap k.values.now k.out.now c.if-values-count.false c.if-out-count.false lines.result (lines.ensures k.num_vars c.if-values-count.false)

pub returns-then-is_err-clause-leaves : goal.returns-then-is_err-clause-leaves
returns-then-is_err-clause-leaves c =
    let k = c.args in
    let cap = capped k.bitwidth c.if-num_vars-gt20.false c.degree_cap.ensures c.in-Ok.is in
    let lines = c.recover_lines-outcome in
    let refused = refused_number lines.result (sym c.is_err.ensures.value ∙ c.if-is_err.true) in
    c.clear.ensures
    ∙ ap (λ (n : ℕ). tabulate n (λ j. 0)) (lines.auto.out ∙ c.if-out-count.false)
    ∙ decided_left cap k.values.now k.out.now c.if-values-count.false c.if-out-count.false lines.result
    (lines.ensures k.num_vars c.if-values-count.false) refused

pub returns-else-is_err-clause-leaves : goal.returns-else-is_err-clause-leaves
returns-else-is_err-clause-leaves c =
    let k = c.args in
    let cap = capped k.bitwidth c.if-num_vars-gt20.false c.degree_cap.ensures c.in-Ok.is in
    let lines = c.recover_lines-outcome in
    let accepted = accepted_number lines.result (sym c.is_err.ensures.value ∙ c.if-is_err.false) in
    decided_left cap k.values.now k.out.now c.if-values-count.false c.if-out-count.false lines.result
    (lines.ensures k.num_vars c.if-values-count.false) accepted
