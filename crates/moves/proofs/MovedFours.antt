-- A line of degree 3 moved by an offset, term by term: pass 2 alters the third coefficient, pass 1 the second and the third, pass 0 the three lower ones, each
-- by the number above it as it was before the pass. Numbers are compared modulo m, so that it does not matter how a factor is written.
use Rattle.std.proofs.Common.{◌≡◌, ℕ, zero, suc, ◌+◌, ◌-◌, ◌*◌, ◌%◌, ◌<◌, ◌≤◌, [], ◌∷◌, sym, ap, ◌∙◌, mod-eq_of_lt, arith}
use Rattle.std.proofs.Math.Nat.{mod-mod}
use Rattle.meaning.specs.Tables.{at}
use Rattle.meaning.specs.Differences.{minus}
use Rattle.theory.specs.Congruence.{Cong, cong_of_eq, cong_refl, cong_sym, cong_trans, cong_add, cong_add_right, cong_add_cancel_cong, cong_mul, mod-cong, minus-add, cong_minus_of_add}
use Rattle.theory.specs.MovedLines.{shift, moved_line, node_line-moved}
use Rattle.lines.specs.NodeOrders.{from, from_step, from_keep, from_top, expanded-eq-rewritten}

-- a reduced number is congruent to what was reduced
cong_of_mod : {m x y : ℕ} → x ≡ y % m → Cong m x y
cong_of_mod {m} {y} e = cong_trans (cong_of_eq m e) (mod-cong m y)

module _ {m : ℕ} (positive : 0 < m) (a : ℕ) (c : ℕ → ℕ) where
  -- the line with the passes down to k done
  abbrev now : ℕ → ℕ → ℕ
  now k j = from k 3 (shift m a) c j

  -- one number of pass k: x and y are the number and the one above it before the pass, p the product
  number : (k j x y factor p v : ℕ) → k ≤ j → j < 3 → Cong m x (now (suc k) j) → Cong m y (now (suc k) (suc j)) → Cong m (factor + k) (a + (j - k))
      → Cong m p (factor * y) → v ≡ (x + p) % m → Cong m v (now k j)
  number k j x y factor p v h l before above e product total =
      cong_trans (cong_of_mod total)
      (cong_trans (cong_add before (cong_trans product (cong_mul (cong_minus_of_add k positive e) above)))
      (cong_of_eq m (sym (from_step k 3 (shift m a) c j h l))))

  -- a reduced number is that of the moved line
  moved_at : (j x v : ℕ) → j ≤ 3 → v ≡ x % m → Cong m v (now 0 j) → v ≡ moved_line m a 3 c j
  unfolding from
  moved_at j x v h e r =
      e
      ∙ sym (mod-mod x m)
      ∙ ap (◌% m) (sym e)
      ∙ r.same
      ∙ ap (◌% m) (expanded-eq-rewritten 3 (shift m a) c j h)
      ∙ node_line-moved positive a 3 c j h

  -- the highest coefficient stays
  pub moved_last : moved_line m a 3 c 3 ≡ c 3 % m
  unfolding from
  moved_last =
      sym (node_line-moved positive a 3 c 3 (omega arith))
      ∙ ap (◌% m) (sym (expanded-eq-rewritten 3 (shift m a) c 3 (omega arith)) ∙ from_top 0 3 (shift m a) c 3 (omega arith))

  -- the numbers of the line, and the steps one after the other: a factor, the product, the sum
  pub three_moved : {x₀ x₁ x₂ x₃ multiple double less₂ less₁ more₁ more₂ p₁ p₂ p₃ once inner twice low middle high : ℕ}
      → c 0 ≡ x₀ → c 1 ≡ x₁ → c 2 ≡ x₂ → c 3 ≡ x₃
      → multiple ≡ (a * x₃) % m → double ≡ (x₃ + x₃) % m
      → less₂ ≡ minus m multiple double → once ≡ (x₂ + less₂) % m
      → less₁ ≡ minus m a 1 → p₁ ≡ (less₁ * once) % m → inner ≡ (x₁ + p₁) % m
      → twice ≡ (once + multiple) % m
      → p₂ ≡ (a * inner) % m → low ≡ (x₀ + p₂) % m
      → more₁ ≡ (a + 1) % m → p₃ ≡ (more₁ * twice) % m → middle ≡ (inner + p₃) % m
      → more₂ ≡ (multiple + double) % m → high ≡ (twice + more₂) % m
      → (low ≡ moved_line m a 3 c 0) × (middle ≡ moved_line m a 3 c 1) × (high ≡ moved_line m a 3 c 2)
  three_moved {x₀} {x₁} {x₂} {x₃} {multiple} {double} {less₂} {less₁} {more₁} {more₂} {p₁} {p₂} {p₃} {once} {inner} {twice} {low} {middle} {high}
      e₀ e₁ e₂ e₃ f q l₂ v₁ f₁ q₁ v₂ v₃ q₂ v₄ f₂ q₃ v₅ l₃ v₆ = (
        moved_at 0 (x₀ + p₂) low (omega arith) v₄
            (number 0 0 x₀ inner a p₂ low (omega arith) (omega arith) (kept 1 0 x₀ e₀ (omega arith)) inner-is (cong_refl (a + 0)) (cong_of_mod q₂) v₄),
        moved_at 1 (inner + p₃) middle (omega arith) v₅
            (number 0 1 inner twice more₁ p₃ middle (omega arith) (omega arith) inner-is twice-is
            (cong_trans (cong_add_right 0 (cong_of_mod f₂)) (cong_of_eq m {a = a + 1 + 0} {b = a + 1} (omega arith))) (cong_of_mod q₃) v₅),
        moved_at 2 (twice + more₂) high (omega arith) v₆
            (number 0 2 twice x₃ (a + 2) more₂ high (omega arith) (omega arith) twice-is (top 1)
            (cong_of_eq m {a = a + 2 + 0} {b = a + 2} (omega arith)) plus v₆),
      )
    where
      kept : (k j x : ℕ) → c j ≡ x → j < k → Cong m x (now k j)
      kept k j x e h = cong_of_eq m (sym e ∙ sym (from_keep k 3 (shift m a) c j h))

      top : (k : ℕ) → Cong m x₃ (now k 3)
      top k = cong_of_eq m (sym e₃ ∙ sym (from_top k 3 (shift m a) c 3 (omega arith)))

      less_by : (n : ℕ) → Cong m (minus m a n + n) (a + 0)
      less_by n = cong_trans (minus-add a n positive) (cong_of_eq m {a = a} {b = a + 0} (omega arith))

      -- two times the last number more, and two times less
      plus : Cong m more₂ ((a + 2) * x₃)
      plus =
          cong_trans (cong_of_mod l₃)
          (cong_trans (cong_add (cong_of_mod f) (cong_of_mod q)) (cong_of_eq m {a = a * x₃ + (x₃ + x₃)} {b = (a + 2) * x₃} (omega arith)))

      less : Cong m less₂ (minus m a 2 * x₃)
      less =
          let b : ℕ = minus m a 2 in
          cong_add_cancel_cong (cong_of_mod q)
          (cong_trans (rw l₂ (minus-add multiple double positive))
          (cong_trans (cong_of_mod f)
          (cong_trans (cong_mul (cong_sym (minus-add a 2 positive)) (cong_refl x₃))
          (cong_of_eq m {a = (b + 2) * x₃} {b = b * x₃ + (x₃ + x₃)} (omega arith)))))

      once_is : Cong m once (now 2 2)
      once_is = number 2 2 x₂ x₃ (minus m a 2) less₂ once (omega arith) (omega arith) (kept 3 2 x₂ e₂ (omega arith)) (top 3) (less_by 2) less v₁

      inner-is : Cong m inner (now 1 1)
      inner-is =
          number 1 1 x₁ once less₁ p₁ inner (omega arith) (omega arith) (kept 2 1 x₁ e₁ (omega arith)) once_is (rw f₁ (less_by 1)) (cong_of_mod q₁) v₂

      twice-is : Cong m twice (now 1 2)
      twice-is = number 1 2 once x₃ a multiple twice (omega arith) (omega arith) once_is (top 2) (cong_refl (a + 1)) (cong_of_mod f) v₃

  -- all four
  pub four_moved : ((x : ℕ) → c x < m) → {low middle high : ℕ}
      → (low ≡ moved_line m a 3 c 0) × (middle ≡ moved_line m a 3 c 1) × (high ≡ moved_line m a 3 c 2)
      → (j : ℕ) → j ≤ 3 → at (low ∷ middle ∷ high ∷ c 3 ∷ []) j ≡ moved_line m a 3 c j
  four_moved small three zero l = three.0
  four_moved small three (suc zero) l = three.1
  four_moved small three (suc (suc zero)) l = three.2
  four_moved small three (suc (suc (suc zero))) l = sym (moved_last ∙ mod-eq_of_lt (small 3))
  four_moved small three (suc (suc (suc (suc j)))) l = absurd (omega arith)
