-- A line of degree 3, term by term: its change of nodes, computed. Both conversions leave the first and the last coefficient. Between them `middle` is the
-- third one after pass 1 towards falling factorials, or after pass 2, the first one, towards powers.
use Rattle.std.specs.Prelude.{◌≡◌, ℕ, zero, suc, ◌+◌, ◌*◌, ◌%◌, ◌^◌, ◌<◌, ◌≤◌, [], ◌∷◌, refl}
use Rattle.std.proofs.Common.{sym, ap, ap₂, ◌∙◌, one-mul, arith, pow_pos, mod-eq_of_lt}
use Rattle.meaning.specs.Tables.{at}
use Rattle.meaning.specs.Differences.{minus, newton, diffs, diff}
use Rattle.meaning.specs.Stirling.{falling_line, power_line}
use Rattle.theory.specs.Congruence.{cong_add-left, cong_add_right, mod-cong}
use Rattle.theory.specs.AlongEach.{Line}
use Rattle.theory.specs.Nodes.{before, passed, rewritten}
use Rattle.lines.specs.Transforms.{Words}
use Rattle.lines.specs.NodeOrders.{stepped, expanded, from, from_idle, expanded-eq-rewritten}
use Rattle.lines.specs.NodeConversions.{to_falling, to_powers, minus-zero, node_line-falling, node_line_power}
use Rattle.lines.specs.DivisionPasses.{sum_of_product, difference_of_product}

-- a transform that leaves the ends of the line c and puts a and b between them
pub record Four (line : Line) (c : ℕ → ℕ) (a b : ℕ) : Type 0 where
  pub first : line 3 c 0 ≡ c 0
  pub second : line 3 c 1 ≡ a
  pub third : line 3 c 2 ≡ b
  pub last : line 3 c 3 ≡ c 3

module _ {m : ℕ} (c : ℕ → ℕ) (small : (x : ℕ) → c x < m) where
  -- from powers to falling factorials
  pub falling-four : {middle twice a b : ℕ} → middle ≡ (c 2 + c 3) % m → twice ≡ (2 * c 3) % m → a ≡ (c 1 + middle) % m → b ≡ (middle + twice) % m
      → Four (falling_line m) c a b
  unfolding rewritten passed
  falling-four {middle} {twice} {a} {b} e₀ e₁ e₂ e₃ =
      record {
        first = term 0 (omega arith) (omega arith) ∙ mod-eq_of_lt (small 0);
        second = term 1 (omega arith) (omega arith) ∙ sym (e₂ ∙ ap (λ x. (c 1 + x) % m) e₀ ∙ (cong_add-left (c 1) (mod-cong m (c 2 + c 3))).same);
        third =
            term 2 (omega arith) (omega arith)
            ∙ sym (sum_of_product m 1 middle (c 3) e₁ e₃ ∙ ap (λ x. (x + 2 * c 3) % m) e₀ ∙ (cong_add_right (2 * c 3) (mod-cong m (c 2 + c 3))).same);
        last = term 3 (omega arith) (omega arith) ∙ mod-eq_of_lt (small 3);
      }
    where
      term : (j : ℕ) {x : ℕ} → j ≤ 3 → rewritten 3 to_falling c j ≡ x → falling_line m 3 c j ≡ x % m
      term j h e = sym (node_line-falling m 3 c j h) ∙ ap (◌% m) e

  -- and back
  pub powers_four : {middle twice a b : ℕ} → 0 < m → twice ≡ (2 * c 3) % m → middle ≡ minus m (c 2) twice → a ≡ minus m (c 1) middle → b ≡ minus m middle (c 3)
      → Four (power_line m) c a b
  unfolding from expanded stepped before
  powers_four {middle} {twice} {a} {b} pos e₁ e₀ e₂ e₃ =
      record {
        first = term 0 (omega arith) (omega arith) ∙ mod-eq_of_lt (small 0);
        second = term 1 (omega arith) (omega arith) ∙ sym (difference_of_product m 0 (c 1) inner pos (middle-eq ∙ ap (◌% m) (sym (one-mul inner))) e₂);
        third =
            term 2 (omega arith) (omega arith)
            ∙ sym
            (difference_of_product m 0 middle (c 3) pos (sym (ap (◌% m) (one-mul (c 3)) ∙ mod-eq_of_lt (small 3))) e₃
            ∙ ap (λ x. (x + minus m 0 1 * c 3) % m) middle-eq
            ∙ (cong_add_right (minus m 0 1 * c 3) (mod-cong m inner)).same);
        last = term 3 (omega arith) (omega arith) ∙ mod-eq_of_lt (small 3);
      }
    where
      term : (j : ℕ) {x : ℕ} → j ≤ 3 → from 1 3 (to_powers m) c j ≡ x → power_line m 3 c j ≡ x % m
      term j h e =
          sym (node_line_power pos 3 c j h)
          ∙ ap (◌% m) (sym (from_idle 0 3 (to_powers m) c j (λ i. minus-zero m) ∙ expanded-eq-rewritten 3 (to_powers m) c j h) ∙ e)

      inner : ℕ
      inner = c 2 + minus m 0 2 * c 3

      middle-eq : middle ≡ inner % m
      middle-eq = difference_of_product m 1 (c 2) (c 3) pos e₁ e₀

-- four words
pub words_four : {a b c d : ℕ} → a < 2 ^ 64 → b < 2 ^ 64 → c < 2 ^ 64 → d < 2 ^ 64 → Words (a ∷ b ∷ c ∷ d ∷ [])
words_four h₀ h₁ h₂ h₃ zero = h₀
words_four h₀ h₁ h₂ h₃ (suc zero) = h₁
words_four h₀ h₁ h₂ h₃ (suc (suc zero)) = h₂
words_four h₀ h₁ h₂ h₃ (suc (suc (suc zero))) = h₃
words_four h₀ h₁ h₂ h₃ (suc (suc (suc (suc j)))) = pow_pos 64

-- the four numbers of a line, where they are its differences, or a conversion's
pub newton_numbers : {a b c difference : ℕ} (m : ℕ) (f : ℕ → ℕ) → a ≡ minus m (f 1) (f 0) → b ≡ minus m (f 2) (f 1) → c ≡ minus m (f 3) (f 2)
    → difference ≡ minus m b a → {v w : ℕ} → w ≡ minus m c b → v ≡ minus m w difference
    → (j : ℕ) → j ≤ 3 → at (f 0 ∷ a ∷ difference ∷ v ∷ []) j ≡ newton m 3 f j
unfolding newton diffs diff
newton_numbers m f e₁ e₂ e₃ e₄ e₅ e₆ zero l = refl
newton_numbers m f e₁ e₂ e₃ e₄ e₅ e₆ (suc zero) l = e₁
newton_numbers m f e₁ e₂ e₃ e₄ e₅ e₆ (suc (suc zero)) l = e₄ ∙ ap₂ (minus m) e₂ e₁
newton_numbers m f e₁ e₂ e₃ e₄ e₅ e₆ (suc (suc (suc zero))) l =
    e₆ ∙ ap₂ (minus m) (e₅ ∙ ap₂ (minus m) e₃ e₂) (e₄ ∙ ap₂ (minus m) e₂ e₁)
newton_numbers m f e₁ e₂ e₃ e₄ e₅ e₆ (suc (suc (suc (suc j)))) l = absurd (omega arith)

pub four_numbers : {line : Line} {f : ℕ → ℕ} {a b : ℕ} → Four line f a b → (j : ℕ) → j ≤ 3 → at (f 0 ∷ a ∷ b ∷ f 3 ∷ []) j ≡ line 3 f j
four_numbers four zero l = sym four.first
four_numbers four (suc zero) l = sym four.second
four_numbers four (suc (suc zero)) l = sym four.third
four_numbers four (suc (suc (suc zero))) l = sym four.last
four_numbers four (suc (suc (suc (suc j)))) l = absurd (omega arith)
