-- One row cleared: tables that show a state then show the one with the row cleared; and the places of rows in a flat matrix.
use Rattle.std.proofs.Common.{◌≡◌, ℕ, suc, ◌+◌, ◌-◌, ◌*◌, ◌/◌, ◌%◌, ◌^◌, ◌<◌, ◌≤◌, Bool, true, false, cond, List, set, sym, ap, ◌∙◌, ap₂, le_refl, le_of_lt, mul-le-mul_right, suc-mul, lt_of_not-le, mul-zero, zero-mul, arith, length-set, get_or-set_other, get_or-set_same, eq-eqb, ne_eqb}
use Rattle.std.proofs.Math.Decide.{dec_le}
use Rattle.std.proofs.Math.Arith.{digits_lt}
use Rattle.meaning.specs.Tables.{at}
use Rattle.meaning.specs.Inverses.{inverse}
use Rattle.meaning.specs.Differences.{minus}
use Rattle.meaning.specs.Elimination.{State, quotient}
use Rattle.theory.specs.StepLaws.{minus_none, quotient-zero}
use Rattle.two_adic_solver.specs.ShownStates.{Shows}
use Rattle.two_adic_solver.specs.Rows.{Subtracted}
use Rattle.two_adic_solver.specs.Shown.{cleared_row}

-- equal or not
pub dec_eq : (a b : ℕ) → Dec (a ≡ b)
dec_eq a b = go (dec_le a b) (dec_le b a)
  where
    go : Dec (a ≤ b) → Dec (b ≤ a) → Dec (a ≡ b)
    go (yes h) (yes k) = yes (omega arith)
    go (no h) k = no (λ e. h (omega arith))
    go (yes h) (no k) = no (λ e. k (omega arith))

-- a state with the same entries is shown too
pub shows_eq : (rows cols : ℕ) (s s' : State) (mat rhs : List ℕ) → Shows rows cols s mat rhs
    → ((i j : ℕ) → i < rows → j ≤ cols → s.entry i j ≡ s'.entry i j) → Shows rows cols s' mat rhs
shows_eq rows cols s s' mat rhs h e =
    record {
      matrix_length = h.matrix_length;
      right_length = h.right_length;
      entries = λ i c p q. h.entries i c p q ∙ e i c p (le_of_lt q);
      rights = λ i p. h.rights i p ∙ e i cols p (le_refl cols);
    }

-- row p from column c on
pub shown-from : (rows cols : ℕ) (s : State) (mat rhs : List ℕ) → Shows rows cols s mat rhs → (p c : ℕ) → p < rows
    → (k : ℕ) → k < cols - c → at mat (p * cols + c + k) ≡ s.entry p (c + k)
shown-from rows cols s mat rhs h p c l k m =
    let place : p * cols + c + k ≡ p * cols + (c + k) = omega arith in
    ap (at mat) place ∙ h.entries p (c + k) l (omega arith)

-- ---- one row

module _ (w t x : ℕ) (part : ℕ → ℕ) (c i : ℕ) (s : State) where
  abbrev q : ℕ
  q = quotient w t x (s.entry i c)

  abbrev less : ℕ → ℕ
  less j = minus (2 ^ w) (s.entry i j) (q * part j)

  pub cleared_here : (b : Bool) (k j : ℕ) → k ≡ i → (cleared_row b w t x part c i s).entry k j ≡ cond b (s.entry i j) (less j)
  unfolding cleared_row
  cleared_here b k j e = ap (λ (r : Bool). cond r (cond b (s.entry i j) (less j)) (s.entry k j)) (eq-eqb k i e)

  pub cleared_other : (b : Bool) (k j : ℕ) → (k ≡ i → ⊥) → (cleared_row b w t x part c i s).entry k j ≡ s.entry k j
  unfolding cleared_row
  cleared_other b k j e = ap (λ (r : Bool). cond r (cond b (s.entry i j) (less j)) (s.entry k j)) (ne_eqb k i e)

  module _ (rows cols : ℕ) (mat rhs : List ℕ) (h : Shows rows cols s mat rhs) where
    -- a used row stays
    pub row_used : (b : Bool) → b ≡ true → Shows rows cols (cleared_row b w t x part c i s) mat rhs
    row_used b e = shows_eq rows cols s _ mat rhs h (λ k j l m. go k j (dec_eq k i))
      where
        go : (k j : ℕ) → Dec (k ≡ i) → s.entry k j ≡ (cleared_row b w t x part c i s).entry k j
        go k j (yes x) = sym (cleared_here b k j x ∙ ap (λ (r : Bool). cond r (s.entry i j) (less j)) e ∙ ap (λ (n : ℕ). s.entry n j) (sym x))
        go k j (no x) = sym (cleared_other b k j x)

    module _ (b : Bool) (e : b ≡ false) (small : (j : ℕ) → s.entry i j < 2 ^ w) where
      here : (k j : ℕ) → k ≡ i → less j ≡ (cleared_row b w t x part c i s).entry k j
      here k j x = sym (cleared_here b k j x ∙ ap (λ (r : Bool). cond r (s.entry i j) (less j)) e)

      -- a row with 0 in the column stays
      pub row_zero : i < rows → c < cols → at mat (i * cols + c) ≡ 0 → Shows rows cols (cleared_row b w t x part c i s) mat rhs
      row_zero l lc z = shows_eq rows cols s _ mat rhs h (λ k j l m. go k j (dec_eq k i))
        where
          none : q ≡ 0
          none = ap (quotient w t x) (sym (h.entries i c l lc) ∙ z) ∙ quotient-zero w t _

          go : (k j : ℕ) → Dec (k ≡ i) → s.entry k j ≡ (cleared_row b w t x part c i s).entry k j
          go k j (yes x) =
              ap (λ (n : ℕ). s.entry n j) x
              ∙ sym (minus_none (small j) (ap (◌* part j) none ∙ zero-mul (part j)))
              ∙ here k j x
          go k j (no x) = sym (cleared_other b k j x)

      -- the multiple subtracted from n columns from d on, outside of which the part is 0, and from the right side
      module _ (d n : ℕ) (zeros : (j : ℕ) → j < d → part j ≡ 0) (far : (j : ℕ) → d + n ≤ j → j < cols → part j ≡ 0)
          (src : ℕ → ℕ) (from : (k : ℕ) → k < n → src k ≡ part (d + k)) (side : ℕ) (es : side ≡ part cols)
          (li : i < rows) (ld : d + n ≤ cols) (m : ℕ) (em : m ≡ q)
          (mat' : List ℕ) (r : Subtracted (2 ^ w) m (i * cols + d) n src mat mat')
          (v : ℕ) (ev : v ≡ minus (2 ^ w) (at rhs i) (m * side)) where
        untouched : (j : ℕ) → j < cols → part j ≡ 0 → at mat' (i * cols + j) ≡ at mat (i * cols + j) → at mat' (i * cols + j) ≡ less j
        untouched j l none e = e ∙ h.entries i j li l ∙ sym (minus_none (small j) (ap (q *◌) none ∙ mul-zero q))

        entry_here : (j : ℕ) → j < cols → Dec (d ≤ j) → Dec (d + n ≤ j) → at mat' (i * cols + j) ≡ less j
        entry_here j l (yes y) (no z) =
            let f : i * cols + j ≡ i * cols + d + (j - d) = omega arith in
            let g : d + (j - d) ≡ j = omega arith in
            let k : j - d < n = omega (arith, lt_of_not-le z) in
            ap (at mat') f
            ∙ r.inside (j - d) k
            ∙ ap₂ (λ (a b : ℕ). minus (2 ^ w) a (m * b)) (ap (at mat) (sym f) ∙ h.entries i j li l) (from (j - d) k ∙ ap part g)
            ∙ ap (λ (n : ℕ). minus (2 ^ w) (s.entry i j) (n * part j)) em
        entry_here j l (no y) z =
            let k : j < d = lt_of_not-le y in
            untouched j l (zeros j k) (r.before (i * cols + j) (omega arith))
        entry_here j l (yes z) (yes y) = untouched j l (far j y l) (r.after (i * cols + j) (omega arith))

        entry_other : (k j : ℕ) → k < rows → j < cols → (k ≡ i → ⊥) → Dec (k ≤ i) → at mat' (k * cols + j) ≡ s.entry k j
        entry_other k j lk l ne (yes x) =
            let lt : k < i = strictly (dec_le i k) in
            let before : k * cols + j < i * cols = digits_lt lt l in
            r.before (k * cols + j) (omega arith) ∙ h.entries k j lk l
          where
            strictly : Dec (i ≤ k) → k < i
            strictly (yes y) = absurd (ne (omega arith))
            strictly (no y) = lt_of_not-le y
        entry_other k j lk l ne (no x) =
            let after : suc i * cols ≤ k * cols = mul-le-mul_right cols (lt_of_not-le x) in
            let row : suc i * cols ≡ i * cols + cols = omega (arith, suc-mul i cols) in
            r.after (k * cols + j) (omega arith) ∙ h.entries k j lk l

        pub row_subtracted : Shows rows cols (cleared_row b w t x part c i s) mat' (set rhs i v)
        row_subtracted =
            record {
              matrix_length = r.same ∙ h.matrix_length;
              right_length = length-set rhs i v ∙ h.right_length;
              entries = λ k j l n. entry k j l n (dec_eq k i);
              rights = λ k l. right k l (dec_eq k i);
            }
          where
            entry : (k j : ℕ) → k < rows → j < cols → Dec (k ≡ i) → at mat' (k * cols + j) ≡ (cleared_row b w t x part c i s).entry k j
            entry k j l m (yes x) = ap (λ (y : ℕ). at mat' (y * cols + j)) x ∙ entry_here j m (dec_le d j) (dec_le (d + n) j) ∙ here k j x
            entry k j l n (no x) = entry_other k j l n x (dec_le k i) ∙ sym (cleared_other b k j x)

            right : (k : ℕ) → k < rows → Dec (k ≡ i) → at (set rhs i v) k ≡ (cleared_row b w t x part c i s).entry k cols
            right k l (yes x) =
                ap (at (set rhs i v)) x
                ∙ get_or-set_same rhs i v 0 (rw h.right_length li)
                ∙ ev
                ∙ ap₂ (λ (x y : ℕ). minus (2 ^ w) x (m * y)) (h.rights i li) es
                ∙ ap (λ (n : ℕ). minus (2 ^ w) (s.entry i cols) (n * part cols)) em
                ∙ here k cols x
            right k l (no x) = get_or-set_other rhs i k v 0 x ∙ h.rights k l ∙ sym (cleared_other b k cols x)

-- ---- places in the matrix

module _ (rows cols n : ℕ) (e : n ≡ rows * cols) where
  pub row_fits : (i c k : ℕ) → i < rows → c + k ≤ cols → i * cols + c + k ≤ n
  row_fits i c k l h =
      let row : suc i * cols ≡ i * cols + cols = omega (arith, suc-mul i cols) in
      let within : suc i * cols ≤ rows * cols = mul-le-mul_right cols l in
      omega arith

-- the multiplier that is computed is the definition's
pub quotient-told : (w t P E x v m : ℕ) → m ≡ (x / 2 ^ t * v) % 2 ^ (w - t) → x ≡ E → v ≡ inverse (P / 2 ^ t) (w - t) → m ≡ quotient w t P E
unfolding quotient
quotient-told w t P E x v m a b d = a ∙ ap₂ (λ (x v : ℕ). (x / 2 ^ t * v) % 2 ^ (w - t)) b d
