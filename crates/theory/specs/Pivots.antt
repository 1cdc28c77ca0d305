-- The pivot of a column is the first of the lowest rows; it is unused, and its power of two divides the entry of every unused row.
use Rattle.std.specs.Prelude.{◌≡◌, refl, ◌⊎◌, Bool, true, false, cond, ℕ, zero, suc, ◌%◌, ◌^◌, ◌≤◌, ◌<◌, ltb}
use Rattle.std.proofs.Common.{sym, ap, subst, ◌∙◌, inl, inr, not-suc-le-zero, le_refl, le_trans, le_of_lt, lt_of_lt_of_le, lt_irrefl, arith, ltb-true, ltb-false}
use Rattle.std.proofs.Math.Nat.{zero-mod}
use Rattle.meaning.specs.Factorials.{twos_of}
use Rattle.meaning.specs.Elimination.{State, height, Lowest, lowest, chosen}
use Rattle.theory.specs.Every.{last}
use Rattle.theory.specs.Words.{cong_of_pow}
use Rattle.theory.specs.Trailing.{twos_of-divides}

-- b is the first of the lowest among the first n heights, and is below w
pub record Found (w : ℕ) (h : ℕ → ℕ) (n : ℕ) (b : Lowest) : Type 0 where
  pub inside : b.row < n
  pub twos_eq : b.twos ≡ h b.row
  pub low : b.twos < w
  pub least : (i : ℕ) → i < n → b.twos ≤ h i
  pub before : (i : ℕ) → i < b.row → b.twos < h i

-- no height is below w
pub record Missing (none w : ℕ) (h : ℕ → ℕ) (n : ℕ) (b : Lowest) : Type 0 where
  pub row_eq : b.row ≡ none
  pub twos_eq : b.twos ≡ w
  pub high : (i : ℕ) → i < n → w ≤ h i

-- the one or the other
pub lowest_cases : (none w : ℕ) (h : ℕ → ℕ) (n : ℕ) → Found w h n (lowest none w h n) ⊎ Missing none w h n (lowest none w h n)
unfolding lowest
lowest_cases none w h zero = inr (record { row_eq = refl; twos_eq = refl; high = λ i p. absurd (not-suc-le-zero p) })
lowest_cases none w h (suc n) = go (ltb (h n) (lowest none w h n).twos) refl (lowest_cases none w h n)
  where
    b : Lowest
    b = lowest none w h n

    here : Lowest
    here = record { row = n; twos = h n }

    go : (r : Bool) → ltb (h n) b.twos ≡ r → Found w h n b ⊎ Missing none w h n b
        → Found w h (suc n) (cond r here b) ⊎ Missing none w h (suc n) (cond r here b)
    go true e (inl f) =
        let l = ltb-true (h n) b.twos e in
        inl (record {
          inside = le_refl (suc n);
          twos_eq = refl;
          low = omega (arith, f.low);
          least = λ i p. last (λ i. h n ≤ h i) i p (le_refl (h n)) (λ q. le_trans (le_of_lt l) (f.least i q));
          before = λ i p. lt_of_lt_of_le l (f.least i p);
        })
    go true e (inr m) =
        let l = ltb-true (h n) b.twos e in
        inl (record {
          inside = le_refl (suc n);
          twos_eq = refl;
          low = omega (arith, m.twos_eq);
          least = λ i p. last (λ i. h n ≤ h i) i p (le_refl (h n)) (λ q. omega (arith, m.twos_eq, m.high i q));
          before = λ i p. omega (arith, m.twos_eq, m.high i p);
        })
    go false e (inl f) =
        let l = ltb-false (h n) b.twos e in
        inl (record {
          inside = omega (arith, f.inside);
          twos_eq = f.twos_eq;
          low = f.low;
          least = λ i p. last (λ i. b.twos ≤ h i) i p l (λ q. f.least i q);
          before = f.before;
        })
    go false e (inr m) =
        let l = ltb-false (h n) b.twos e in
        inr (record {
          row_eq = m.row_eq;
          twos_eq = m.twos_eq;
          high = λ i p. last (λ i. w ≤ h i) i p (omega (arith, m.twos_eq)) (λ q. m.high i q);
        })

-- a column's pivot, in the same words
pub chosen_cases : (w rows : ℕ) (s : State) (c : ℕ)
    → Found w (height w s c) rows (chosen w rows s c) ⊎ Missing rows w (height w s c) rows (chosen w rows s c)
unfolding chosen
chosen_cases w rows s c = lowest_cases rows w (height w s c) rows

-- the height of an unused row is its twos
pub height_unused : (w : ℕ) (s : State) (c i : ℕ) → s.used i ≡ false → height w s c i ≡ twos_of w (s.entry i c)
unfolding height
height_unused w s c i e = ap (λ (b : Bool). cond b w (twos_of w (s.entry i c))) e

-- a row that is lower than w is unused
pub unused_of_low : (w : ℕ) (s : State) (c i : ℕ) → height w s c i < w → s.used i ≡ false
unfolding height
unused_of_low w s c i h = go (s.used i) refl
  where
    go : (b : Bool) → s.used i ≡ b → b ≡ false
    go false e = refl
    go true e = absurd (lt_irrefl w (subst (λ (b : Bool). cond b w (twos_of w (s.entry i c)) < w) e h))

-- the pivot row is unused and its entry has the pivot's twos
pub found_unused : (w rows : ℕ) (s : State) (c : ℕ) (b : Lowest) → Found w (height w s c) rows b → s.used b.row ≡ false
found_unused w rows s c b f = unused_of_low w s c b.row (omega (arith, f.low, f.twos_eq))

pub found-twos : (w rows : ℕ) (s : State) (c : ℕ) (b : Lowest) → Found w (height w s c) rows b → b.twos ≡ twos_of w (s.entry b.row c)
found-twos w rows s c b f = f.twos_eq ∙ height_unused w s c b.row (found_unused w rows s c b f)

-- 2^t divides a number with t twos or more
pub divides_of_twos : (w t n : ℕ) → t ≤ twos_of w n → n % 2 ^ t ≡ 0
divides_of_twos w t n h = (cong_of_pow {j = t} {k = twos_of w n} {a = n} {b = 0} h (record { same = twos_of-divides w n ∙ sym (zero-mod (2 ^ twos_of w n)) })).same ∙ zero-mod (2 ^ t)
