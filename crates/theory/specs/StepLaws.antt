-- What a step of the elimination leaves as it is: every row where there is no pivot, a row whose entry in the column is 0, and the columns done.
-- So a program may pass over the first two and touch a row from the pivot's column on only.
use Rattle.std.specs.Prelude.{◌≡◌, refl, Bool, true, false, ℕ, ◌+◌, ◌*◌, ◌-◌, ◌/◌, ◌%◌, ◌^◌, ◌<◌}
use Rattle.std.proofs.Common.{sym, ap, ◌∙◌, zero-mul, add-zero, arith}
use Rattle.std.proofs.Math.Nat.{zero-div, zero-mod}
use Rattle.meaning.specs.Inverses.{inverse}
use Rattle.meaning.specs.Differences.{minus}
use Rattle.meaning.specs.Elimination.{quotient, State, height, chosen, step}
use Rattle.theory.specs.Congruence.{cong_of_eq, cong_trans, minus-add, minus-lt, eq_of_cong}
use Rattle.theory.specs.Pivots.{Missing}
use Rattle.theory.specs.Elimination.{kept, multiplier, step_kept, step_cleared, multiplier_missing}

-- the quotient of 0 is 0
pub quotient-zero : (w t P : ℕ) → quotient w t P 0 ≡ 0
unfolding quotient
quotient-zero w t P =
    ap (λ (k : ℕ). (k * inverse (P / 2 ^ t) (w - t)) % 2 ^ (w - t)) (zero-div (2 ^ t))
    ∙ ap (◌% 2 ^ (w - t)) (zero-mul (inverse (P / 2 ^ t) (w - t)))
    ∙ zero-mod (2 ^ (w - t))

-- a small number less 0
pub minus_none : {m a b : ℕ} → a < m → b ≡ 0 → minus m a b ≡ a
minus_none {m} {a} {b} h z =
    let p : 0 < m = omega arith in
    eq_of_cong (minus-lt a b p) h
    (cong_trans (cong_of_eq m (sym (add-zero (minus m a b)) ∙ ap (minus m a b +◌) (sym z))) (minus-add a b p))

module _ (w rows : ℕ) (s : State) (c i : ℕ) where
  -- a row whose multiplier is 0 stays
  pub step_same : multiplier w rows s c i ≡ 0 → (j : ℕ) → s.entry i j < 2 ^ w → (step w rows s c).entry i j ≡ s.entry i j
  step_same z j h = go (kept w rows s c i) refl
    where
      go : (b : Bool) → kept w rows s c i ≡ b → (step w rows s c).entry i j ≡ s.entry i j
      go true e = step_kept w rows s c i j e
      go false e =
          step_cleared w rows s c i j e
          ∙ minus_none h (ap (◌* s.entry (chosen w rows s c).row j) z ∙ zero-mul (s.entry (chosen w rows s c).row j))

  -- every row stays where there is no pivot
  pub step_missing : Missing rows w (height w s c) rows (chosen w rows s c) → (j : ℕ) → s.entry i j < 2 ^ w
      → (step w rows s c).entry i j ≡ s.entry i j
  step_missing m = step_same (multiplier_missing w rows s c m i)
