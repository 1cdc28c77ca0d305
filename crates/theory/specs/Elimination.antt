-- A step of the elimination keeps the kernel, hence the solutions, and so does the whole pass.
-- The pivot row and used rows stay; every other row loses a multiple of the pivot row. Where there is no pivot every multiplier is 0.
use Rattle.std.specs.Prelude.{◌≡◌, ◌↔◌, Bool, true, false, ◌||◌, ℕ, zero, suc, ◌+◌, ◌*◌, ◌^◌, ◌<◌, eqb, refl, cond}
use Rattle.std.proofs.Common.{ap, sym, ◌∙◌, ⊎_elim, zero-mul, mul-zero, add-zero, pow_pos, eq-eqb, ne_eqb}
use Rattle.std.proofs.Math.Bool.{or-true}
use Rattle.meaning.specs.Sums.{sum}
use Rattle.meaning.specs.Differences.{minus}
use Rattle.meaning.specs.Elimination.{quotient, State, start, height, chosen, step, forward, eliminated}
use Rattle.theory.specs.Congruence.{Cong, cong_of_eq, cong_sym, cong_trans, cong_add-left, cong_mul-left}
use Rattle.theory.specs.Sums.{sum_eq}
use Rattle.theory.specs.LinearSystems.{Kernel, Solves, extended, solves-iff_kernel, row_minus}
use Rattle.theory.specs.OneEquation.{quotient_full}
use Rattle.theory.specs.Pivots.{Found, Missing, chosen_cases}

-- ---- one step

-- rows that a step leaves alone: those used before, and the pivot
abbrev pub kept : ℕ → ℕ → State → ℕ → ℕ → Bool
kept w rows s c i = s.used i || eqb i (chosen w rows s c).row

-- how often the pivot row is subtracted from row i
abbrev pub multiplier : ℕ → ℕ → State → ℕ → ℕ → ℕ
multiplier w rows s c i =
    quotient w (chosen w rows s c).twos (s.entry (chosen w rows s c).row c) (s.entry i c)

-- row i's entry in column j after that
abbrev pub less_pivot : ℕ → ℕ → State → ℕ → ℕ → ℕ → ℕ
less_pivot w rows s c i j = minus (2 ^ w) (s.entry i j) (multiplier w rows s c i * s.entry (chosen w rows s c).row j)

module _ (w rows : ℕ) (s : State) (c : ℕ) where
  -- what a step does to the entries and the used rows
  pub step_used : (i : ℕ) → (step w rows s c).used i ≡ kept w rows s c i
  unfolding step
  step_used i = refl

  pub step_kept : (i j : ℕ) → kept w rows s c i ≡ true → (step w rows s c).entry i j ≡ s.entry i j
  unfolding step
  step_kept i j e = ap (λ (b : Bool). cond b (s.entry i j) (less_pivot w rows s c i j)) e

  pub step_cleared : (i j : ℕ) → kept w rows s c i ≡ false → (step w rows s c).entry i j ≡ less_pivot w rows s c i j
  unfolding step
  step_cleared i j e = ap (λ (b : Bool). cond b (s.entry i j) (less_pivot w rows s c i j)) e

  -- the pivot of a column is noted, and the others stay
  pub step_pivot_same : (step w rows s c).pivot c ≡ (chosen w rows s c).row
  unfolding step
  step_pivot_same = ap (λ (b : Bool). cond b (chosen w rows s c).row (s.pivot c)) (eq-eqb c c refl)

  pub step_pivot_other : (j : ℕ) → (j ≡ c → ⊥) → (step w rows s c).pivot j ≡ s.pivot j
  unfolding step
  step_pivot_other j h = ap (λ (b : Bool). cond b (chosen w rows s c).row (s.pivot j)) (ne_eqb j c h)

  -- the pivot row is kept, and so are used rows
  pub kept_pivot : kept w rows s c (chosen w rows s c).row ≡ true
  kept_pivot = ap (s.used (chosen w rows s c).row ||◌) (eq-eqb (chosen w rows s c).row _ refl) ∙ or-true (s.used (chosen w rows s c).row)

  pub kept_used : (i : ℕ) → s.used i ≡ true → kept w rows s c i ≡ true
  kept_used i e = ap (◌|| eqb i (chosen w rows s c).row) e

  -- without a pivot every multiplier is 0
  pub multiplier_missing : Missing rows w (height w s c) rows (chosen w rows s c) → (i : ℕ) → multiplier w rows s c i ≡ 0
  multiplier_missing m i =
      ap (λ (t : ℕ). quotient w t (s.entry (chosen w rows s c).row c) (s.entry i c)) m.twos_eq ∙ quotient_full w _ _

-- ---- the kernel is kept

module _ (w rows n : ℕ) (s : State) (c : ℕ) (v : ℕ → ℕ) where
  -- row i times v, before and after
  abbrev before : ℕ → ℕ
  before i = sum n (λ j. s.entry i j * v j)

  abbrev after : ℕ → ℕ
  after i = sum n (λ j. (step w rows s c).entry i j * v j)

  after_kept : (i : ℕ) → kept w rows s c i ≡ true → after i ≡ before i
  after_kept i e = sum_eq n (λ j h. ap (◌* v j) (step_kept w rows s c i j e))

  after_cleared : (i : ℕ) → kept w rows s c i ≡ false
      → Cong (2 ^ w) (after i + multiplier w rows s c i * before (chosen w rows s c).row) (before i)
  after_cleared i e =
      cong_trans
      (cong_of_eq (2 ^ w)
      (ap (◌+ multiplier w rows s c i * before (chosen w rows s c).row) (sum_eq n (λ j h. ap (◌* v j) (step_cleared w rows s c i j e)))))
      (row_minus n (s.entry i) (s.entry (chosen w rows s c).row) v (multiplier w rows s c i) (pow_pos w))

  -- where the pivot row vanishes, rows vanish after the step exactly when they did before
  same_row : (((chosen w rows s c).row < rows) → Cong (2 ^ w) (before (chosen w rows s c).row) 0) → (i : ℕ) → Cong (2 ^ w) (after i) (before i)
  same_row z i = go (kept w rows s c i) refl
    where
      q : ℕ
      q = multiplier w rows s c i

      nothing : Cong (2 ^ w) (q * before (chosen w rows s c).row) 0
      nothing =
          ⊎_elim
          (λ (f : Found w (height w s c) rows (chosen w rows s c)).
          cong_trans (cong_mul-left q (z f.inside)) (cong_of_eq (2 ^ w) (mul-zero q)))
          (λ (m : Missing rows w (height w s c) rows (chosen w rows s c)).
          cong_of_eq (2 ^ w) (ap (◌* before (chosen w rows s c).row) (multiplier_missing w rows s c m i) ∙ zero-mul _))
          (chosen_cases w rows s c)

      go : (b : Bool) → kept w rows s c i ≡ b → Cong (2 ^ w) (after i) (before i)
      go true e = cong_of_eq (2 ^ w) (after_kept i e)
      go false e =
          cong_trans (cong_of_eq (2 ^ w) (sym (add-zero (after i))))
          (cong_trans (cong_add-left (after i) (cong_sym nothing)) (after_cleared i e))

  -- a vector is in the kernel after the step exactly when it was before
  pub kernel_step : Kernel (2 ^ w) rows n s.entry v ↔ Kernel (2 ^ w) rows n (step w rows s c).entry v
  kernel_step = (
    λ k. record { vanishes = λ i h. cong_trans (same_row (λ l. k.vanishes _ l) i) (k.vanishes i h) },
    λ k. record {
      vanishes =
          λ i h.
          cong_trans (cong_sym (same_row (λ l. cong_trans (cong_of_eq (2 ^ w) (sym (after_kept _ (kept_pivot w rows s c)))) (k.vanishes _ l)) i))
          (k.vanishes i h);
    },
  )

-- and so after any number of columns
pub kernel_forward : (w rows n : ℕ) (s : State) (c : ℕ) (v : ℕ → ℕ)
    → Kernel (2 ^ w) rows n s.entry v ↔ Kernel (2 ^ w) rows n (forward w rows s c).entry v
unfolding forward
kernel_forward w rows n s zero v = (λ k. k, λ k. k)
kernel_forward w rows n s (suc c) v =
    let a = kernel_forward w rows n s c v in
    let b = kernel_step w rows n (forward w rows s c) c v in
    (λ k. b.0 (a.0 k), λ k. a.1 (b.1 k))

-- a step keeps the solutions
pub solves-step : (w rows cols : ℕ) (s : State) (c : ℕ) (x : ℕ → ℕ)
    → Solves (2 ^ w) rows cols s.entry x ↔ Solves (2 ^ w) rows cols (step w rows s c).entry x
solves-step w rows cols s c x =
    let k = kernel_step w rows (suc cols) s c (extended (2 ^ w) cols x) in (
      λ h. (solves-iff_kernel (pow_pos w)).1 (k.0 ((solves-iff_kernel (pow_pos w)).0 h)),
      λ h. (solves-iff_kernel (pow_pos w)).1 (k.1 ((solves-iff_kernel (pow_pos w)).0 h)),
    )

-- the solutions of a system and of what the elimination makes of it are the same
pub solves-eliminated : (w rows cols : ℕ) (A : ℕ → ℕ → ℕ) (x : ℕ → ℕ)
    → Solves (2 ^ w) rows cols A x ↔ Solves (2 ^ w) rows cols (eliminated w rows cols A).entry x
unfolding eliminated start
solves-eliminated w rows cols A x =
    let k = kernel_forward w rows (suc cols) (start A) cols (extended (2 ^ w) cols x) in (
      λ s. (solves-iff_kernel (pow_pos w)).1 (k.0 ((solves-iff_kernel (pow_pos w)).0 s)),
      λ s. (solves-iff_kernel (pow_pos w)).1 (k.1 ((solves-iff_kernel (pow_pos w)).0 s)),
    )
