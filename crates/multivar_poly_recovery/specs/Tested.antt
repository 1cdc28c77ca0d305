-- The invariant of a loop that replaces each number of a table by a rule and stops at the first number that fails a test. Numbers are done one by
-- one, or as a part that was lent and came back.
use Rattle.std.specs.Prelude.{◌≡◌, ℕ, ◌+◌, ◌-◌, ◌<◌, ◌≤◌, Bool, true, false, T, ◌⊎◌, ◌↔◌, List, length, slice_set, refl}
use Rattle.std.proofs.Common.{sym, ◌∙◌, subst, inl, inr, not-suc-le-zero, eq-or-lt_of_le, le_of_suc-le-suc, add-one, arith}
use Rattle.std.proofs.Math.Decide.{dec_le}
use Rattle.meaning.specs.Tables.{at, tabulate}
use Rattle.meaning.specs.Recovery.{every}
use Rattle.theory.specs.Tables.{Filled, filled_start, filled_step, eq-tabulate}
use Rattle.theory.specs.Parts.{put, filled_part}
use Rattle.theory.specs.Every.{every-iff}

-- the answer r says whether the n numbers pass the test p; where they do, they are as the rule f says
pub record Tested (p : ℕ → Bool) (f : ℕ → ℕ) (n : ℕ) (t : List ℕ) (r : Bool) : Type 0 where
  pub passes : T r ↔ ((i : ℕ) → i < n → T (p i))
  pub left : T r → (i : ℕ) → i < n → at t i ≡ f i

-- the numbers below k passed and are as the rule says
pub record Testing (p : ℕ → Bool) (f : ℕ → ℕ) (t₀ t : List ℕ) (k : ℕ) : Type 0 where
  pub filled : Filled f t₀ t k
  pub passed : (i : ℕ) → i < k → T (p i)

-- a rule and a test with the same values
pub tested_cong : {p p' : ℕ → Bool} {f f' : ℕ → ℕ} {n : ℕ} {t : List ℕ} {r : Bool} → ((i : ℕ) → i < n → p i ≡ p' i)
    → ((i : ℕ) → i < n → f i ≡ f' i) → Tested p f n t r → Tested p' f' n t r
tested_cong e e' h =
    record {
      passes = (
        λ t i l. subst (λ (b : Bool). T b) (e i l) (h.passes.0 t i l),
        λ g. h.passes.1 (λ i l. subst (λ (b : Bool). T b) (sym (e i l)) (g i l)),
      );
      left = λ t i l. h.left t i l ∙ e' i l;
    }

-- the answer and the table by the definitions
eq_of_iff : (a b : Bool) → T a ↔ T b → a ≡ b
eq_of_iff true true h = refl
eq_of_iff true false h = absurd (h.0 tt)
eq_of_iff false true h = absurd (h.1 tt)
eq_of_iff false false h = refl

module _ {p : ℕ → Bool} {f : ℕ → ℕ} {n : ℕ} {t : List ℕ} {r : Bool} (h : Tested p f n t r) where
  pub tested_every : r ≡ every n p
  tested_every =
      let all = every-iff n p in
      eq_of_iff r (every n p) (λ x. all.1 (h.passes.0 x), λ x. h.passes.1 (all.0 x))

  pub tested_tabulate : length t ≡ n → T r → t ≡ tabulate n f
  tested_tabulate e x = eq-tabulate t n f e (h.left x)

module _ (p : ℕ → Bool) (f : ℕ → ℕ) (t₀ : List ℕ) where
  pub testing_start : Testing p f t₀ t₀ 0
  testing_start = record { filled = filled_start f t₀; passed = λ i h. absurd (not-suc-le-zero h) }

  -- one number more
  pub testing_step : (t : List ℕ) (k v : ℕ) → Testing p f t₀ t k → k < length t → v ≡ f k → T (p k) → Testing p f t₀ (slice_set t k v) (k + 1)
  testing_step t k v r h e x =
      record {
        filled = filled_step f t₀ t k v r.filled h e;
        passed = λ i l. go i (eq-or-lt_of_le (le_of_suc-le-suc (rw (add-one k) at l)));
      }
    where
      go : (i : ℕ) → (i ≡ k) ⊎ (i < k) → T (p i)
      go i (inl e) = rw e x
      go i (inr l) = r.passed i l

  -- a part has come back
  pub testing_part : (t : List ℕ) (a e : ℕ) (ys : List ℕ) → Testing p f t₀ t a → a ≤ e → e ≤ length t → length ys ≡ e - a
      → Tested (λ i. p (a + i)) (λ i. f (a + i)) (e - a) ys true → Testing p f t₀ (put a e t ys) e
  testing_part t a e ys r order fits same h =
      record {
        filled = filled_part f t₀ t a e ys r.filled order fits same (h.left tt);
        passed = λ i l. go i l (dec_le a i);
      }
    where
      go : (i : ℕ) → i < e → Dec (a ≤ i) → T (p i)
      go i l (yes q) =
          let there : a + (i - a) ≡ i = omega arith in
          subst (λ (j : ℕ). T (p j)) there (h.passes.0 tt (i - a) (omega arith))
      go i l (no q) = r.passed i (omega arith)

  -- all numbers are done
  pub testing_done : (t : List ℕ) (n k : ℕ) → Testing p f t₀ t k → n ≤ k → Tested p f n t true
  testing_done t n k r h =
      record {
        passes = (λ x i l. r.passed i (omega arith), λ g. tt);
        left = λ x i l. r.filled.below i (omega arith);
      }

-- a number fails
pub tested_fails : (p : ℕ → Bool) (f : ℕ → ℕ) (n : ℕ) (t : List ℕ) (k : ℕ) → k < n → (T (p k) → ⊥) → Tested p f n t false
tested_fails p f n t k h x = record { passes = (λ b. absurd b, λ g. x (g k h)); left = λ b. absurd b }

-- a number of a part fails
pub tested_part_fails : (p : ℕ → Bool) (f : ℕ → ℕ) (n : ℕ) (t ys : List ℕ) (a m : ℕ) (f' : ℕ → ℕ) → a + m ≤ n
    → Tested (λ i. p (a + i)) f' m ys false → Tested p f n t false
tested_part_fails p f n t ys a m f' h r =
    record { passes = (λ b. absurd b, λ g. r.passes.1 (λ i l. g (a + i) (omega arith))); left = λ b. absurd b }
