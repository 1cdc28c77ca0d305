-- The entries of a Stirling table, row by row: the corner, the left column, zeros above the diagonal, and every other entry from the row before.
use Rattle.std.proofs.Common.{◌≡◌, ℕ, zero, suc, pred, ◌+◌, ◌-◌, ◌*◌, ◌/◌, ◌%◌, ◌^◌, ◌<◌, ◌≤◌, min, List, length, set, sym, refl, ap, ◌∙◌, subst, ap₂, le_of_suc-le-suc, not-suc-le-zero, mul-le-mul_right, mod-eq_of_lt, suc-mul, add-mul, mul-pos, one-mul, mul-zero, ne_of_gt, ne_of_lt, add-one, arith, get_or-set_other, pow_pos}
use Rattle.std.proofs.Math.Nat.{min-eq_left, zero-mod, suc-pred-eq_of_ne-zero}
use Rattle.std.proofs.Math.Decide.{dec_le}
use Rattle.std.proofs.Math.Arith.{digits_div, digits_mod}
use Rattle.std.proofs.Math.Pow.{pow-lt}
use Rattle.meaning.specs.Tables.{tabulate, at}
use Rattle.meaning.specs.Differences.{minus}
use Rattle.meaning.specs.Stirling.{stirling1, stirling2}
use Rattle.meaning.specs.Integers.{residue}
use Rattle.theory.specs.Congruence.{Cong, cong_of_eq, cong_sym, cong_trans, cong_add, cong_add-left, cong_add_cancel, cong_mul, cong_mul_right, mod-cong, minus-add, minus-lt}
use Rattle.theory.specs.Integers.{residue-lt}
use Rattle.theory.specs.Words.{cong_of_pow}
use Rattle.theory.specs.Tables.{Filled, filled_start, filled_step, filled_done, length-tabulate, at-tabulate-zero}
use Rattle.theory.specs.StirlingNumbers.{signed-step}
use Rattle.math_utils.specs.declared.stirling.Kind.{Kind}
use Rattle.math_utils.specs.Kinds.{entry, factor, Factors, Zeros}

-- an entry by its row and column
number : Kind → ℕ → ℕ → ℕ → ℕ
number Kind.First w i j = residue (2 ^ w) (stirling1 i j)
number Kind.Second w i j = stirling2 i j % 2 ^ w

entry-number : (k : Kind) (w side c : ℕ) → number k w (c / side) (c % side) ≡ entry k w side c
unfolding number
entry-number Kind.First w side c = refl
entry-number Kind.Second w side c = refl

one-mod : (w : ℕ) → 1 ≤ w → 1 % 2 ^ w ≡ 1
one-mod w h = mod-eq_of_lt (pow-lt h)

corner : (k : Kind) (w : ℕ) → 1 ≤ w → 1 ≡ number k w 0 0
unfolding number stirling1 stirling2 residue
corner Kind.First w h = sym (one-mod w h)
corner Kind.Second w h = sym (one-mod w h)

left : (k : Kind) (w i : ℕ) → 0 ≡ number k w (suc i) 0
unfolding number stirling1 stirling2 residue
left Kind.First w i = sym (zero-mod (2 ^ w))
left Kind.Second w i = sym (zero-mod (2 ^ w))

top : (k : Kind) (w j : ℕ) → 0 ≡ number k w 0 (suc j)
unfolding number stirling1 stirling2 residue
top Kind.First w j = sym (zero-mod (2 ^ w))
top Kind.Second w j = sym (zero-mod (2 ^ w))

-- 1 - i, which wraps, and i - 1 are nothing together
wraps : (w i : ℕ) → w ≤ 64 → Cong (2 ^ w) (minus (2 ^ 64) 1 (suc i) + i) 0
wraps w i small =
    let whole = minus-add 1 (suc i) (pow_pos 64) in
    cong_of_pow small (cong_add_cancel 1 (cong_trans (cong_of_eq (2 ^ 64) (omega arith)) whole))

-- the recurrence
inner : (k : Kind) (w i j : ℕ) → w ≤ 64
    → (number k w i j + factor k (suc i) (suc j) * number k w i (suc j)) % 2 ^ w ≡ number k w (suc i) (suc j)
unfolding number stirling2
inner Kind.First w i j small =
    let m = 2 ^ w in
    let left = residue m (stirling1 i j) in
    let above = residue m (stirling1 i (suc j)) in
    let f = minus (2 ^ 64) 1 (suc i) in
    let parts : left + f * above + i * above ≡ left + (f + i) * above = omega (arith, add-mul f i above) in
    let sum : Cong m (left + f * above + i * above) (left + 0 * above) =
    cong_trans (cong_of_eq m parts) (cong_add-left left (cong_mul_right above (wraps w i small))) in
    (cong_add_cancel (i * above) (cong_trans sum (cong_trans (cong_of_eq m (omega arith)) (cong_sym (signed-step (pow_pos w) i j))))).same
    ∙ mod-eq_of_lt (residue-lt (pow_pos w) (stirling1 (suc i) (suc j)))
inner Kind.Second w i j small =
    let m = 2 ^ w in
    let column = cong_of_pow small (mod-cong (2 ^ 64) (suc j)) in
    let order : stirling2 i j + suc j * stirling2 i (suc j) ≡ suc j * stirling2 i (suc j) + stirling2 i j = omega arith in
    (cong_trans (cong_add (mod-cong m (stirling2 i j)) (cong_mul column (mod-cong m (stirling2 i (suc j))))) (cong_of_eq m order)).same

-- an entry by a product that is cut to 64 bits
pub sum-cut : (w a b : ℕ) → w ≤ 64 → (a + b % 2 ^ 64) % 2 ^ min w 64 ≡ (a + b) % 2 ^ w
sum-cut w a b h =
    ap (λ (k : ℕ). (a + b % 2 ^ 64) % 2 ^ k) (min-eq_left h) ∙ (cong_add-left a (cong_of_pow h (mod-cong (2 ^ 64) b))).same

-- the factor of the next column, of the first kind
pub factor_same : (i : ℕ) → minus (2 ^ 64) 1 i ≡ (minus (2 ^ 64) 1 i + 0) % 2 ^ 64
factor_same i = sym (ap (◌% 2 ^ 64) (omega arith) ∙ mod-eq_of_lt (minus-lt 1 i (pow_pos 64)))

-- above the diagonal
number-above : (k : Kind) (w i j : ℕ) → w ≤ 64 → i < j → number k w i j ≡ 0
number-above k w i zero small h = absurd (not-suc-le-zero h)
number-above k w zero (suc j) small h = sym (top k w j)
number-above k w (suc i) (suc j) small h =
    sym (inner k w i j small)
    ∙ ap₂ (λ (x y : ℕ). (x + factor k (suc i) (suc j) * y) % 2 ^ w)
    (number-above k w i j small (le_of_suc-le-suc h)) (number-above k w i (suc j) small (omega arith))
    ∙ simp (mul-zero, zero-mod)

module _ (k : Kind) (w side : ℕ) (word : w ≤ 64) where
  -- the entry at row a and column b
  at-cell : (c a b : ℕ) → c ≡ a * side + b → b < side → entry k w side c ≡ number k w a b
  at-cell c a b e h =
      sym (entry-number k w side c)
      ∙ ap₂ (number k w) (ap (◌/ side) e ∙ digits_div a h) (ap (◌% side) e ∙ digits_mod a h)

  -- zeros that are entries already
  skipped : {t₀ t : List ℕ} (p e : ℕ) → Zeros t₀ → Filled (entry k w side) t₀ t p → p ≤ e
      → ((c : ℕ) → p ≤ c → c < e → entry k w side c ≡ 0) → Filled (entry k w side) t₀ t e
  skipped {t₀} {t} p e z f order empty =
      record { same = f.same; below = λ c h. below c h (dec_le p c); above = λ c h. f.above c (omega arith) }
    where
      below : (c : ℕ) → c < e → Dec (p ≤ c) → at t c ≡ entry k w side c
      below c h (yes q) = f.above c q ∙ z c ∙ sym (empty c q h)
      below c h (no q) = f.below c (omega arith)

  -- the first row
  pub row_first : {t₀ t : List ℕ} → Zeros t₀ → 0 < side → Filled (entry k w side) t₀ t 1 → Filled (entry k w side) t₀ t side
  row_first z pos f =
      skipped 1 side z f pos (λ c p q. at-cell c 0 c (omega arith) q ∙ number-above k w 0 c word p)

  pub corner_entry : 1 ≤ w → 0 < side → 1 ≡ entry k w side 0
  corner_entry h pos = corner k w h ∙ sym (at-cell 0 0 0 (omega arith) pos)

  -- row i: its first entry, an entry from the row before, its end above the diagonal
  module _ {t₀ t : List ℕ} (z : Zeros t₀) (i : ℕ) (pos : 0 < i) (small : i < side) where
    pub row_begun : Filled (entry k w side) t₀ t (i * side) → Filled (entry k w side) t₀ t (i * side + 1)
    row_begun f = skipped (i * side) (i * side + 1) z f (omega arith) first
      where
        first : (c : ℕ) → i * side ≤ c → c < i * side + 1 → entry k w side c ≡ 0
        first c p q =
            at-cell c i 0 (omega arith) (omega arith)
            ∙ ap (λ (n : ℕ). number k w n 0) (sym (suc-pred-eq_of_ne-zero (ne_of_gt pos)))
            ∙ sym (left k w (pred i))

    -- entry j from the row before, which begins at `from`
    row_next : (from j : ℕ) → from + side ≡ i * side → 0 < j → j ≤ i → Filled (entry k w side) t₀ t (i * side + j)
        → (at t (from + j - 1) + factor k i j * at t (from + j)) % 2 ^ w ≡ entry k w side (i * side + j)
    row_next from j e low high f =
        ap₂ (λ (x y : ℕ). (x + factor k i j * y) % 2 ^ w)
        (f.below (from + j - 1) (omega arith) ∙ at-cell (from + j - 1) a b (omega (arith, place, js)) (omega (arith, js)))
        (f.below (from + j) (omega arith) ∙ at-cell (from + j) a (suc b) (omega (arith, place, js)) (omega (arith, js)))
        ∙ ap₂ (λ (m n : ℕ). (number k w a b + factor k m n * number k w a (suc b)) % 2 ^ w) (sym is) (sym js)
        ∙ inner k w a b word
        ∙ sym (at-cell (i * side + j) (suc a) (suc b) (omega (arith, js, ap (◌* side) is)) (omega (arith, js)))
      where
        a : ℕ
        a = pred i

        b : ℕ
        b = pred j

        is : suc a ≡ i
        is = suc-pred-eq_of_ne-zero (ne_of_gt pos)

        js : suc b ≡ j
        js = suc-pred-eq_of_ne-zero (ne_of_gt low)

        place : from ≡ a * side
        place = omega (arith, e, ap (◌* side) is)

    -- the entry of column j, by its factor and the two entries that it comes from
    pub row_step : (from j v left f above : ℕ) → from + side ≡ i * side → 0 < j → j ≤ i → from + side + j < length t
        → left ≡ at t (from + j - 1) → f ≡ factor k i j → above ≡ at t (from + j) → v ≡ (left + f * above) % 2 ^ w
        → Filled (entry k w side) t₀ t (i * side + j) → Filled (entry k w side) t₀ (set t (from + side + j) v) (i * side + (j + 1))
    row_step from j v left f above e low high fits l m a value filled =
        let here = ap (◌% 2 ^ w) (ap₂ ◌+◌ l (ap₂ ◌*◌ m a)) in
        subst (Filled (entry k w side) t₀ (set t (from + side + j) v)) (omega (arith, e))
        (filled_step _ t₀ t (from + side + j) v (subst (Filled (entry k w side) t₀ t) (omega (arith, e)) filled) fits
        (value ∙ here ∙ row_next from j e low high filled ∙ ap (entry k w side) (omega (arith, e))))

    pub row_ended : (p : ℕ) → p ≡ i * side + (i + 1) → Filled (entry k w side) t₀ t p → Filled (entry k w side) t₀ t (i * side + side)
    row_ended p e f =
        skipped p (i * side + side) z f (omega arith)
        (λ c q h. at-cell c i (c - i * side) (omega arith) (omega arith) ∙ number-above k w i (c - i * side) word (omega arith))

-- the loop over the columns of row i: the row is filled before column j, `f` is the factor of column j, and `left` stands left of the entry above
pub record Columns (w side from i first step : ℕ) (t₀ t : List ℕ) (f left j : ℕ) : Type 0 where
  pub read : left ≡ at t (from + j - 1)
  pub factors : (k : Kind) → Factors k i first step → f ≡ factor k i j
  pub filled : (k : Kind) (z : List ℕ) → Factors k i first step → Zeros z → Filled (entry k w side) z t₀ (i * side)
      → Filled (entry k w side) z t (i * side + j)

module _ (w side from i first step : ℕ) (word : w ≤ 64) (pos : 0 < i) (small : i < side) (place : from + side ≡ i * side) (t₀ : List ℕ) where
  pub columns-start : Columns w side from i first step t₀ t₀ first (at t₀ from) 1
  columns-start =
      record {
        read = ap (at t₀) (omega arith);
        factors = λ k f. f.begins;
        filled = λ k z f zeros filled. row_begun k w side word zeros i pos small filled;
      }

  module _ (t : List ℕ) (f left j : ℕ) (c : Columns w side from i first step t₀ t f left j) where
    -- one column more
    pub column_step : (above v g : ℕ) → 0 < j → j ≤ i → from + side + j < length t → above ≡ at t (from + j) → v ≡ (left + f * above) % 2 ^ w
        → g ≡ (f + step) % 2 ^ 64
        → Columns w side from i first step t₀ (set t (from + side + j) v) g above (j + 1)
    column_step above v g low within fits a value next =
        record {
          read = a ∙ sym (get_or-set_other t (from + side + j) (from + j) v 0 (ne_of_lt (omega arith))) ∙ ap (at (set t (from + side + j) v)) (omega arith);
          factors = λ k fs. next ∙ ap (λ (x : ℕ). (x + step) % 2 ^ 64) (c.factors k fs) ∙ sym (fs.grows j);
          filled =
              λ k z fs zeros filled.
              row_step k w side word zeros i pos small from j v left f above place low within fits c.read (c.factors k fs) a
              value (c.filled k z fs zeros filled);
        }

    -- all columns to the diagonal
    pub columns_done : j ≡ i + 1 → (k : Kind) (z : List ℕ) → Factors k i first step → Zeros z → Filled (entry k w side) z t₀ (i * side)
        → Filled (entry k w side) z t (i * side + side)
    columns_done e k z fs zeros filled = row_ended k w side word zeros i pos small (i * side + j) (ap (i * side +◌) e) (c.filled k z fs zeros filled)

-- a row and its last entry stand in the table
pub row_fits : (side i : ℕ) → i < side → i * side + side ≤ side * side
row_fits side i h = rw (← suc-mul i side) (mul-le-mul_right side h)

-- the rows before row i of a table of zeros are filled
abbrev pub Rows : Kind → ℕ → ℕ → List ℕ → ℕ → Type 0
Rows k w side t i = Filled (entry k w side) (tabulate (side * side) (λ c. 0)) t (i * side)

module _ (k : Kind) (w side : ℕ) where
  abbrev n : ℕ
  n = side * side

  pub rows_start : (t : List ℕ) (m : ℕ) → t ≡ tabulate m (λ c. 0) → m ≡ n → 1 ≤ w → w ≤ 64 → 0 < side → Rows k w side (set t 0 1) 1
  rows_start t m e whole h word pos =
      subst (Filled _ _ _) (sym (one-mul side))
      (row_first k w side word (at-tabulate-zero n) pos
      (subst (λ (u : List ℕ). Filled (entry k w side) (tabulate n (λ c. 0)) (set u 0 1) 1) (sym (e ∙ ap (λ (a : ℕ). tabulate a (λ c. 0)) whole))
      (filled_step _ _ _ 0 1 (filled_start _ _) (rw (length-tabulate n (λ c. 0)) (mul-pos pos pos)) (corner_entry k w side word h pos))))

  -- row i is filled
  pub rows_step : (t : List ℕ) (i : ℕ) → Filled (entry k w side) (tabulate n (λ c. 0)) t (i * side + side) → Rows k w side t (i + 1)
  rows_step t i r = subst (Filled _ _ t) (sym (suc-mul i side) ∙ ap (◌* side) (sym (add-one i))) r

  pub rows_done : (t : List ℕ) (i m : ℕ) → Rows k w side t i → i ≡ side → m ≡ n → t ≡ tabulate m (entry k w side)
  rows_done t i m r e whole =
      let long = length-tabulate n (λ c. 0) in
      filled_done _ _ t (i * side) r (omega (arith, long, ap (◌* side) e)) ∙ ap (λ (a : ℕ). tabulate a (entry k w side)) (long ∙ sym whole)
