-- The bare solver: an accepted answer satisfies every row modulo 2^w, in the words of the lent tables.
use Rattle.std.specs.Prelude.{◌≡◌, refl, Bool, true, false, List, T, cond, ℕ, suc, ◌+◌, ◌*◌, ◌%◌, ◌^◌, ◌<◌}
use Rattle.std.proofs.Common.{ap, ◌∙◌, mod-lt, le_refl, suc-ne-zero, pow_pos, lt-ltb, le-ltb}
use Rattle.meaning.specs.Tables.{tabulate, at}
use Rattle.meaning.specs.Sums.{sum}
use Rattle.theory.specs.AcceptedCalls.{first-zero}
use Rattle.meaning.specs.Calls.{left}
use Rattle.meaning.specs.Elimination.{system, substituted, solver_rows, solver_cause, solver_state, solver_succeeds, solver_number, solver_answer}
use Rattle.theory.specs.Congruence.{Cong, cong_of_eq, cong_sym, cong_trans, cong_mul_right, mod-cong}
use Rattle.theory.specs.Sums.{sum_eq, sum_cong}
use Rattle.theory.specs.Tables.{at-tabulate}
use Rattle.theory.specs.LinearSystems.{Solves}
use Rattle.theory.specs.BackSubstitution.{substituted-solves}

-- a test that answers 0 where it passes, and else a number above 0
pub passed : (b : Bool) (n : ℕ) → cond b 0 (suc n) ≡ 0 → b ≡ true
passed true n e = refl
passed false n e = absurd (suc-ne-zero n e)

pub holds_of_true : {b : Bool} → b ≡ true → T b
holds_of_true e = rw e tt

-- the system's entries are below 2^w, and are the tables' modulo 2^w
pub system-lt : (w cols : ℕ) (mat rhs : List ℕ) (i j : ℕ) → system w cols mat rhs i j < 2 ^ w
unfolding system
system-lt w cols mat rhs i j = mod-lt _ (pow_pos w)

pub system-entry : (w cols : ℕ) (mat rhs : List ℕ) (i j : ℕ) → j < cols → Cong (2 ^ w) (system w cols mat rhs i j) (at mat (i * cols + j))
unfolding system
system-entry w cols mat rhs i j h =
    cong_trans (mod-cong (2 ^ w) _) (cong_of_eq (2 ^ w) (ap (λ (b : Bool). cond b (at mat (i * cols + j)) (at rhs i)) (lt-ltb j cols h)))

pub system_right : (w cols : ℕ) (mat rhs : List ℕ) (i : ℕ) → Cong (2 ^ w) (system w cols mat rhs i cols) (at rhs i)
unfolding system
system_right w cols mat rhs i =
    cong_trans (mod-cong (2 ^ w) _)
    (cong_of_eq (2 ^ w) (ap (λ (b : Bool). cond b (at mat (i * cols + cols)) (at rhs i)) (le-ltb cols cols (le_refl cols))))

-- solutions of the system are what satisfies the tables' rows
pub system_solved : (w rows cols : ℕ) (mat rhs : List ℕ) (x : ℕ → ℕ) → Solves (2 ^ w) rows cols (system w cols mat rhs) x
    → (i : ℕ) → i < rows → Cong (2 ^ w) (sum cols (λ c. at mat (i * cols + c) * x c)) (at rhs i)
system_solved w rows cols mat rhs x s i h =
    cong_trans (sum_cong cols (λ c p. cong_mul_right (x c) (cong_sym (system-entry w cols mat rhs i c p))))
    (cong_trans (s.holds i h) (system_right w cols mat rhs i))

-- the answer of an accepted call
module _ (w cols : ℕ) (mat rhs answer : List ℕ) (ok : solver_number w cols mat rhs answer ≡ 0) where
  no_cause : solver_cause w cols mat rhs answer ≡ 0
  unfolding solver_number
  no_cause = (first-zero (solver_cause w cols mat rhs answer) _ ok).0

  success : solver_succeeds w cols mat rhs ≡ true
  unfolding solver_number
  success = passed (solver_succeeds w cols mat rhs) 9 (first-zero (solver_cause w cols mat rhs answer) _ ok).1

  answer-entry : (c : ℕ) → c < cols → at (solver_answer w cols mat rhs answer) c ≡ substituted w cols (solver_state w cols mat rhs) c
  unfolding solver_answer
  answer-entry c h =
      let values : ℕ → ℕ = λ c. cond (solver_succeeds w cols mat rhs) (substituted w cols (solver_state w cols mat rhs) c) 0 in
      ap (λ (n : ℕ). at (left n (tabulate cols values) answer) c) no_cause
      ∙ at-tabulate cols values c h
      ∙ ap (λ (b : Bool). cond b (substituted w cols (solver_state w cols mat rhs) c) 0) success

  -- satisfies every row
  pub solver_answer-solves : (i : ℕ) → i < solver_rows cols mat
      → sum cols (λ c. at mat (i * cols + c) * at (solver_answer w cols mat rhs answer) c) % 2 ^ w ≡ at rhs i % 2 ^ w
  unfolding solver_succeeds solver_state
  solver_answer-solves i h =
      (cong_trans
      (cong_of_eq (2 ^ w) (sum_eq cols (λ c p. ap (at mat (i * cols + c) *◌) (answer-entry c p))))
      (system_solved w (solver_rows cols mat) cols mat rhs _
      (substituted-solves w (solver_rows cols mat) cols (system w cols mat rhs) (system-lt w cols mat rhs) (holds_of_true success)) i h)
      ).same
