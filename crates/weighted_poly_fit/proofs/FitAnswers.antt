-- The solved system as the answer of the fit: number, box and degree used.
use Rattle.std.proofs.Common.{sym, ap, ap₂, ◌∙◌, suc-le-suc, zero-lt-suc, suc-ne-zero, mul-div_cancel, arith}
use Rattle.std.proofs.Math.Bool.{false≢true}
use borrow.Author.Tests.{lt-ltb, le-ltb, eq-eqb}
use Rattle.meaning.specs.Tables.{at, tabulate}
use Rattle.meaning.specs.Boxes.{cells, digits}
use Rattle.meaning.specs.Values.{bound}
use Rattle.meaning.specs.Replies.{accepted}
use Rattle.meaning.specs.Settings.{first}
use Rattle.meaning.specs.Calls.{same_list, reply, left}
use Rattle.meaning.specs.Elimination.{State, system, eliminated, substituted, succeeds, solver_rows, solver_cause, solver_state, solver_succeeds, solver_number, solver_answer}
use Rattle.meaning.specs.Fit.{value_of, fit_box_of, degree_used_of}
use Rattle.theory.specs.Tables.{at-tabulate, tabulate_cong}
use Rattle.std.specs.Prelude.{◌≡◌, refl, Bool, true, false, ◌&&◌, ◌||◌, cond, List, [], ◌∷◌, ℕ, suc, pred, ◌*◌, ◌%◌, ◌/◌, ◌<◌, ltb, eqb, length, ⊤, Result, Ok, Err, IfErr}
use Rattle.std.specs.Result.{is_ok}
use Rattle.answers.specs.declared.Refusal.{Refusal}
use Rattle.answers.specs.Said.{code, said_number}
use Rattle.answers.specs.Laws.{code-suc}
use Rattle.two_adic_solver.specs.Solved.{Concluded}
use Rattle.weighted_poly_fit.specs.Fitting.{Solvable, Answered}

-- ---- only the values of the columns count

pub value_of_cong : (fs : List (List ℕ)) (x y : ℕ → ℕ) (es : List ℕ) → ((c : ℕ) → c < length fs → x c ≡ y c)
    → value_of fs x es ≡ value_of fs y es
unfolding value_of
value_of_cong [] x y es h = refl
value_of_cong (f ∷ fs) x y es h =
    ap₂ (cond (same_list f es)) (h 0 (zero-lt-suc (length fs))) (value_of_cong fs (λ i. x (suc i)) (λ i. y (suc i)) es (λ c l. h (suc c) (suc-le-suc l)))

pub fit_box_of_cong : (w : ℕ) (ds : List ℕ) (fs : List (List ℕ)) (x y : ℕ → ℕ) → ((c : ℕ) → c < length fs → x c ≡ y c)
    → fit_box_of w ds fs x ≡ fit_box_of w ds fs y
unfolding fit_box_of
fit_box_of_cong w ds fs x y h =
    tabulate_cong (cells ds) _ _ (λ n l. ap (◌% bound w (digits ds n)) (value_of_cong fs x y (digits ds n) h))

-- ---- the solver on tables that fit

module _ (w : ℕ) (mat rhs x : List ℕ) (f : Solvable w mat rhs x) where
  abbrev cols : ℕ
  cols = length x

  abbrev state : State
  state = eliminated w (length rhs) cols (system w cols mat rhs)

  rows_eq : solver_rows cols mat ≡ length rhs
  unfolding solver_rows
  rows_eq = ap (◌/ cols) f.whole ∙ mul-div_cancel (length rhs) f.some

  no_cause : solver_cause w cols mat rhs x ≡ 0
  unfolding solver_cause
  no_cause =
      ap₂ (λ (a b : Bool). cond a (cond b 8 (cond exact 0 9)) 3) f.fits
      (ap₂ ◌||◌ (le-ltb 65536 (length mat) f.small) (le-ltb 65536 cols (omega (arith, f.few))))
      ∙ ap (λ (b : Bool). cond b 0 9) all
    where
      exact : Bool
      exact = ltb 0 cols && eqb (solver_rows cols mat * cols) (length mat) && eqb (length rhs) (solver_rows cols mat) && eqb (length x) cols

      all : exact ≡ true
      all =
          ap₂ ◌&&◌
          (ap₂ ◌&&◌ (ap₂ ◌&&◌ (lt-ltb 0 cols f.some) (eq-eqb _ _ (ap (◌* cols) rows_eq ∙ sym f.whole))) (eq-eqb _ _ (sym rows_eq)))
          (eq-eqb cols cols refl)

  -- its number and its answer
  number_eq : solver_number w cols mat rhs x ≡ cond (succeeds w (length rhs) cols state) 0 10
  unfolding solver_number solver_succeeds solver_state
  number_eq =
      ap (λ (n : ℕ). first n (cond (solver_succeeds w cols mat rhs) 0 10)) no_cause
      ∙ ap (λ (r : ℕ). cond (succeeds w r cols (eliminated w r cols (system w cols mat rhs))) 0 10) rows_eq

  answer_eq : solver_answer w cols mat rhs x ≡ tabulate cols (λ c. cond (succeeds w (length rhs) cols state) (substituted w cols state c) 0)
  unfolding solver_answer solver_succeeds solver_state
  answer_eq =
      ap (λ (n : ℕ). left n (tabulate cols (λ c. cond (solver_succeeds w cols mat rhs) (substituted w cols (solver_state w cols mat rhs) c) 0)) x) no_cause
      ∙ ap
      (λ (r : ℕ). let s = eliminated w r cols (system w cols mat rhs) in tabulate cols (λ c. cond (succeeds w r cols s) (substituted w cols s c) 0)) rows_eq

  -- the elimination finds an answer
  concluded_accepted : 0 ≡ solver_number w (length x) mat rhs x → (values : List ℕ) → values ≡ solver_answer w (length x) mat rhs x
      → Concluded w (length rhs) (length x) (eliminated w (length rhs) (length x) (system w (length x) mat rhs)) values true
  concluded_accepted e values v =
      record {
        success = sym success;
        values =
            λ p c l.
            ap (λ (t : List ℕ). at t c) (v ∙ answer_eq)
            ∙ at-tabulate cols _ c l
            ∙ ap (λ (b : Bool). cond b (substituted w cols state c) 0) success;
      }
    where
      go : (b : Bool) → ◌≡◌ {A = ℕ} 0 (cond b 0 10) → b ≡ true
      go true p = refl
      go false p = absurd (suc-ne-zero 9 (sym p))

      success : succeeds w (length rhs) cols state ≡ true
      success = go (succeeds w (length rhs) cols state) (e ∙ number_eq)

  -- and none
  concluded_refused : (refusal : Refusal) → code refusal ≡ solver_number w (length x) mat rhs x → (values : List ℕ)
      → Concluded w (length rhs) (length x) (eliminated w (length rhs) (length x) (system w (length x) mat rhs)) values false
  concluded_refused refusal e values =
      record { success = sym (go (succeeds w (length rhs) cols state) (e ∙ number_eq)); values = λ p. absurd (false≢true p) }
    where
      go : (b : Bool) → code refusal ≡ cond b 0 10 → b ≡ false
      go true p = absurd (suc-ne-zero (pred (code refusal)) (sym (code-suc refusal) ∙ p))
      go false p = refl

  -- whose number is 10
  pub refused_none : (answer : Result ⊤ Refusal) → said_number answer ≡ solver_number w (length x) mat rhs x → IfErr answer (λ r. code r ≡ 10)
  refused_none (Ok _) e = tt
  refused_none (Err r) e = go (succeeds w (length rhs) cols state) (e ∙ number_eq)
    where
      go : (b : Bool) → code r ≡ cond b 0 10 → code r ≡ 10
      go true p = absurd (suc-ne-zero (pred (code r)) (sym (code-suc r) ∙ p))
      go false p = p

  -- which of them, as the answer says
  pub concluded : (answer : Result ⊤ Refusal) → said_number answer ≡ solver_number w (length x) mat rhs x → (values : List ℕ)
      → values ≡ solver_answer w (length x) mat rhs x
      → Concluded w (length rhs) (length x) (eliminated w (length rhs) (length x) (system w (length x) mat rhs)) values (is_ok answer)
  concluded (Ok _) e values v = concluded_accepted e values v
  concluded (Err r) e values v = concluded_refused r e values

-- ---- the answer from the values

module _ (w rows cols : ℕ) (ds : List ℕ) (fs : List (List ℕ)) (A : ℕ → ℕ → ℕ) (values : List ℕ) where
  abbrev found : List ℕ
  found = fit_box_of w ds fs (substituted w cols (eliminated w rows cols A))

  module _ {b : Bool} (k : Concluded w rows cols (eliminated w rows cols A) values b) where
    pub answered_accepted : cols ≡ length fs → b ≡ true → (out : List ℕ) (r : ℕ)
        → r ≡ degree_used_of ds (fit_box_of w ds fs (at values)) → out ≡ fit_box_of w ds fs (at values) → Answered w rows cols ds fs A out (accepted r)
    answered_accepted count e out r p q =
        let same : fit_box_of w ds fs (at values) ≡ found = fit_box_of_cong w ds fs _ _ (λ c l. k.values e c (rw (sym count) at l)) in
        let success = sym e ∙ k.success in
        record {
          says = ap accepted (p ∙ ap (degree_used_of ds) same) ∙ ap (λ (t : Bool). reply (cond t 0 10) (degree_used_of ds found)) success;
          leaves = q ∙ same ∙ ap (λ (t : Bool). cond t found (tabulate (cells ds) (λ n. 0))) success;
        }
