-- The rows of a column cleared one after the other, by a part of the pivot row: tables that show a state then show the one in which the columns of that part
-- are as after the column's step.
use Rattle.std.proofs.Common.{◌≡◌, ℕ, ◌+◌, ◌-◌, ◌*◌, ◌/◌, ◌^◌, ◌<◌, ◌≤◌, Bool, true, false, cond, ltb, List, length, get_or, sym, refl, ap, ◌∙◌, ap₂, ⊎_elim, zero-le, le_trans, le_refl, lt_of_not-le, mul-zero, ne_of_lt, arith, le-ltb, lt-ltb}
use Rattle.std.proofs.Math.Decide.{dec_le}
use Rattle.meaning.specs.Tables.{at}
use Rattle.meaning.specs.Inverses.{inverse}
use Rattle.meaning.specs.Differences.{minus}
use Rattle.meaning.specs.Factorials.{twos_of}
use Rattle.meaning.specs.Elimination.{State, quotient, height, chosen, step}
use Rattle.theory.specs.Pivots.{Found, Missing, chosen_cases, found_unused, found-twos}
use Rattle.theory.specs.Elimination.{kept, multiplier, step_kept, step_cleared, kept_pivot}
use Rattle.theory.specs.StepLaws.{minus_none}
use Rattle.theory.specs.Echelon.{echelon_step}
use Rattle.two_adic_solver.specs.ShownStates.{Shows}
use Rattle.two_adic_solver.specs.Shown.{cleared_row, stepped, Behind, Clearing, PivotPart}
use Rattle.two_adic_solver.proofs.ClearLaws.{dec_eq, shows_eq, cleared_here, cleared_other}

cond_same : (b : Bool) {x y : ℕ} → y ≡ x → cond b x y ≡ x
cond_same true e = refl
cond_same false e = e

-- the part of a row between columns a and b
abbrev pub between : ℕ → ℕ → (ℕ → ℕ) → ℕ → ℕ
between a b f j = cond (ltb j a) 0 (cond (ltb j b) (f j) 0)

module _ (a b : ℕ) (f : ℕ → ℕ) (j : ℕ) where
  pub between-low : j < a → between a b f j ≡ 0
  between-low l = ap (λ (x : Bool). cond x 0 (cond (ltb j b) (f j) 0)) (lt-ltb j a l)

  pub between_mid : a ≤ j → j < b → between a b f j ≡ f j
  between_mid l m =
      ap (λ (x : Bool). cond x 0 (cond (ltb j b) (f j) 0)) (le-ltb j a l) ∙ ap (λ (x : Bool). cond x (f j) 0) (lt-ltb j b m)

  pub between-high : a ≤ j → b ≤ j → between a b f j ≡ 0
  between-high l m =
      ap (λ (x : Bool). cond x 0 (cond (ltb j b) (f j) 0)) (le-ltb j a l) ∙ ap (λ (x : Bool). cond x (f j) 0) (le-ltb j b m)

-- a row's part that is the pivot row's between columns a and b, as far as column `cols`, and 0 elsewhere; mat' and rhs' show the row less a multiple of it
pub record RowCleared (w rows cols c p a b t k : ℕ) (used : Bool) (s u : State) (mat' rhs' : List ℕ) : Type 0 where
  pub pivot : ℕ
  pub part : ℕ → ℕ
  pub pivot_eq : pivot ≡ s.entry p c
  pub low : (j : ℕ) → j < a → part j ≡ 0
  pub mid : (j : ℕ) → a ≤ j → j < b → part j ≡ s.entry p j
  pub high : (j : ℕ) → b ≤ j → j ≤ cols → part j ≡ 0
  pub shows : Shows rows cols (cleared_row used w t pivot part c k u) mat' rhs'

module _ (w rows c p : ℕ) (used : List Bool) (s : State) (r : Clearing w rows c p used s) (lp : p < rows) where
  found : Found w (height w s c) rows (chosen w rows s c)
  found =
      ⊎_elim (λ (f : Found w (height w s c) rows (chosen w rows s c)). f)
      (λ (m : Missing rows w (height w s c) rows (chosen w rows s c)). absurd (ne_of_lt lp (r.chosen_eq ∙ m.row_eq)))
      (chosen_cases w rows s c)

  pub pivot_twos : (chosen w rows s c).twos ≡ twos_of w (s.entry p c)
  pivot_twos = found-twos w rows s c _ found ∙ ap (λ (k : ℕ). twos_of w (s.entry k c)) (sym r.chosen_eq)

  kept_p : kept w rows s c p ≡ true
  kept_p = ap (kept w rows s c) r.chosen_eq ∙ kept_pivot w rows s c

  -- the pivot row is 0 before the column
  pub unused : (j : ℕ) → j < c → s.entry p j ≡ 0
  unused j l = r.echelon.cleared p lp (ap s.used r.chosen_eq ∙ found_unused w rows s c _ found) j l

  -- row i from column b on after the step
  abbrev held : ℕ → ℕ → ℕ → ℕ
  held b i j = cond (ltb j b) (s.entry i j) ((step w rows s c).entry i j)

  held-before : (b i j : ℕ) → j < b → held b i j ≡ s.entry i j
  held-before b i j l = ap (λ (x : Bool). cond x (s.entry i j) ((step w rows s c).entry i j)) (lt-ltb j b l)

  held_after : (b i j : ℕ) → b ≤ j → held b i j ≡ (step w rows s c).entry i j
  held_after b i j l = ap (λ (x : Bool). cond x (s.entry i j) ((step w rows s c).entry i j)) (le-ltb j b l)

  held_kept : (b i j : ℕ) → kept w rows s c i ≡ true → held b i j ≡ s.entry i j
  held_kept b i j e = cond_same (ltb j b) (step_kept w rows s c i j e)

  held_small : (b i j : ℕ) → held b i j < 2 ^ w
  held_small b i j = go (ltb j b)
    where
      go : (x : Bool) → cond x (s.entry i j) ((step w rows s c).entry i j) < 2 ^ w
      go true = r.echelon.small i j
      go false = (echelon_step w rows s c r.echelon).small i j

  -- a column in which the pivot row is 0 stays
  step_none : (i j : ℕ) → s.entry p j ≡ 0 → s.entry i j ≡ (step w rows s c).entry i j
  step_none i j z = go (kept w rows s c i) refl
    where
      go : (b : Bool) → kept w rows s c i ≡ b → s.entry i j ≡ (step w rows s c).entry i j
      go true e = sym (step_kept w rows s c i j e)
      go false e =
          sym (step_cleared w rows s c i j e
          ∙ minus_none (r.echelon.small i j)
          (ap (λ (n : ℕ). multiplier w rows s c i * s.entry n j) (sym r.chosen_eq) ∙ ap (multiplier w rows s c i *◌) z ∙ mul-zero _))

  -- ---- one bound for all rows

  -- the pivot row is as it was
  pub pivot_stays : (bound : ℕ → ℕ) (j : ℕ) → (stepped w rows s c bound).entry p j ≡ s.entry p j
  unfolding stepped
  pivot_stays bound j = held_kept (bound p) p j kept_p

  -- nothing stepped, and all
  pub stepped_none : (cols b : ℕ) (mat rhs : List ℕ) → cols < b → Shows rows cols s mat rhs → Shows rows cols (stepped w rows s c (λ i. b)) mat rhs
  unfolding stepped
  stepped_none cols b mat rhs l h = shows_eq rows cols s _ mat rhs h (λ i j m n. sym (held-before b i j (omega arith)))

  pub stepped-all : (cols b : ℕ) (mat rhs : List ℕ) → b ≤ cols → ((j : ℕ) → c ≤ j → j < b → s.entry p j ≡ 0)
      → Shows rows cols (stepped w rows s c (λ i. b)) mat rhs → Shows rows cols (step w rows s c) mat rhs
  unfolding stepped
  stepped-all cols b mat rhs l zeros h = shows_eq rows cols _ _ mat rhs h (λ i j m n. go i j (dec_le b j) (dec_le c j))
    where
      go : (i j : ℕ) → Dec (b ≤ j) → Dec (c ≤ j) → held b i j ≡ (step w rows s c).entry i j
      go i j (yes x) y = held_after b i j x
      go i j (no x) (yes y) = held-before b i j (lt_of_not-le x) ∙ step_none i j (zeros j y (lt_of_not-le x))
      go i j (no x) (no y) = held-before b i j (lt_of_not-le x) ∙ step_none i j (unused j (lt_of_not-le y))

  -- the pivot row's part as it was copied from the tables
  pub pivot_part : (cols a end side b t v : ℕ) (mat rhs src : List ℕ) → Behind w rows cols c p end side b s mat rhs → a < end → end ≤ cols
      → v ≡ inverse (s.entry p c / 2 ^ t) (w - t) → length src ≡ end - a → ((k : ℕ) → k < end - a → at src k ≡ at mat (p * cols + a + k))
      → PivotPart w cols a (s.entry p c) t v src side (between a b (s.entry p))
  pivot_part cols a end side b t v mat rhs src h la le ev size copied =
      record {
        inverse_eq = ev;
        entries =
            λ k q.
            let l : k < end - a = rw size at q in
            let place : p * cols + a + k ≡ p * cols + (a + k) = omega arith in
            copied k l
            ∙ ap (at mat) place
            ∙ h.shows.entries p (a + k) lp (omega arith)
            ∙ pivot_stays (λ i. b) (a + k)
            ∙ sym (between_mid a b (s.entry p) (a + k) (omega arith) (omega (arith, h.above)));
        right = right (dec_le b cols);
        before = between-low a b (s.entry p);
        after = λ j q m. after j (omega (arith, size)) m (dec_le b j);
      }
    where
      right : Dec (b ≤ cols) → side ≡ between a b (s.entry p) cols
      right (yes l) = h.outside l ∙ sym (between-high a b (s.entry p) cols (omega arith) l)
      right (no l) = h.inside (lt_of_not-le l) ∙ sym (between_mid a b (s.entry p) cols (omega arith) (lt_of_not-le l))

      after : (j : ℕ) → end ≤ j → j < cols → Dec (b ≤ j) → between a b (s.entry p) j ≡ 0
      after j q m (yes l) = between-high a b (s.entry p) j (omega arith) l
      after j q m (no l) = between_mid a b (s.entry p) j (omega arith) (lt_of_not-le l) ∙ h.zeros j q (lt_of_not-le l) m

  -- ---- row after row

  module _ (a b : ℕ) (order : a ≤ b) (lc : c < b) where
    abbrev up_to : ℕ → State
    up_to k = stepped w rows s c (λ i. cond (ltb i k) a b)

    done_row : (k i j : ℕ) → i < k → (up_to k).entry i j ≡ held a i j
    unfolding stepped
    done_row k i j l = ap (λ (x : Bool). held (cond x a b) i j) (lt-ltb i k l)

    open_row : (k i j : ℕ) → k ≤ i → (up_to k).entry i j ≡ held b i j
    unfolding stepped
    open_row k i j l = ap (λ (x : Bool). held (cond x a b) i j) (le-ltb i k l)

    pub row_small : (k j : ℕ) → (up_to k).entry k j < 2 ^ w
    row_small k j = rw (open_row k k j (le_refl k)) (held_small b k j)

    pub rows_start : (cols : ℕ) (mat rhs : List ℕ) → Shows rows cols (stepped w rows s c (λ i. b)) mat rhs → Shows rows cols (up_to 0) mat rhs
    unfolding stepped
    rows_start cols mat rhs h = shows_eq rows cols _ _ mat rhs h (λ i j l m. sym (open_row 0 i j zero-le))

    pub rows_done : (cols k : ℕ) (mat rhs : List ℕ) → rows ≤ k → Shows rows cols (up_to k) mat rhs → Shows rows cols (stepped w rows s c (λ i. a)) mat rhs
    unfolding stepped
    rows_done cols k mat rhs lk h = shows_eq rows cols _ _ mat rhs h (λ i j l m. done_row k i j (omega arith))

    module _ (t k cols : ℕ) (mat' rhs' : List ℕ) (et : t ≡ twos_of w (s.entry p c)) (lk : k < rows)
        (z : RowCleared w rows cols c p a b t k (get_or used k false) s (up_to k) mat' rhs') where
      same_multiple : quotient w t z.pivot ((up_to k).entry k c) ≡ multiplier w rows s c k
      same_multiple =
          let e₁ : t ≡ (chosen w rows s c).twos = et ∙ sym pivot_twos in
          let e₂ : z.pivot ≡ s.entry (chosen w rows s c).row c = z.pivot_eq ∙ ap (λ (n : ℕ). s.entry n c) r.chosen_eq in
          let e₃ : (up_to k).entry k c ≡ s.entry k c = open_row k k c (le_refl k) ∙ held-before b k c lc in
          cc

      abbrev value : ℕ → ℕ
      value j = minus (2 ^ w) ((up_to k).entry k j) (quotient w t z.pivot ((up_to k).entry k c) * z.part j)

      -- where the part is 0 nothing changes
      value_none : (j : ℕ) → z.part j ≡ 0 → value j ≡ held b k j
      value_none j e =
          let q = quotient w t z.pivot ((up_to k).entry k c) in
          minus_none (row_small k j) (ap (q *◌) e ∙ mul-zero q) ∙ open_row k k j (le_refl k)

      value-step : (j : ℕ) → kept w rows s c k ≡ false → a ≤ j → j < b → value j ≡ (step w rows s c).entry k j
      value-step j e l m =
          ap₂ (λ (x y : ℕ). minus (2 ^ w) x (y * z.part j)) (open_row k k j (le_refl k) ∙ held-before b k j m) same_multiple
          ∙ ap (λ (x : ℕ). minus (2 ^ w) (s.entry k j) (multiplier w rows s c k * x)) (z.mid j l m ∙ ap (λ (n : ℕ). s.entry n j) r.chosen_eq)
          ∙ sym (step_cleared w rows s c k j e)

      cleared_row_lem : (j : ℕ) → j ≤ cols → (cleared_row (get_or used k false) w t z.pivot z.part c k (up_to k)).entry k j ≡ held a k j
      cleared_row_lem j l =
          cleared_here w t z.pivot z.part c k (up_to k) (get_or used k false) k j refl ∙ go (kept w rows s c k) refl (dec_le a j) (dec_le b j)
        where
          go : (y : Bool) → kept w rows s c k ≡ y → Dec (a ≤ j) → Dec (b ≤ j) → cond (get_or used k false) ((up_to k).entry k j) (value j) ≡ held a k j
          go true e x y =
              ap (λ (d : Bool). cond d ((up_to k).entry k j) (value j)) (r.marked k lk ∙ e)
              ∙ open_row k k j (le_refl k)
              ∙ held_kept b k j e
              ∙ sym (held_kept a k j e)
          go false e (no x) y =
              let m : j < a = lt_of_not-le x in
              ap (λ (d : Bool). cond d ((up_to k).entry k j) (value j)) (r.marked k lk ∙ e)
              ∙ value_none j (z.low j m)
              ∙ held-before b k j (le_trans m order)
              ∙ sym (held-before a k j m)
          go false e (yes x) (no y) =
              ap (λ (d : Bool). cond d ((up_to k).entry k j) (value j)) (r.marked k lk ∙ e)
              ∙ value-step j e x (lt_of_not-le y)
              ∙ sym (held_after a k j x)
          go false e (yes x) (yes y) =
              ap (λ (d : Bool). cond d ((up_to k).entry k j) (value j)) (r.marked k lk ∙ e)
              ∙ value_none j (z.high j y l)
              ∙ held_after b k j y
              ∙ sym (held_after a k j x)

      pub rows_step : Shows rows cols (up_to (k + 1)) mat' rhs'
      rows_step = shows_eq rows cols _ _ mat' rhs' z.shows (λ i j l m. go i j m (dec_eq i k) (dec_le k i))
        where
          go : (i j : ℕ) → j ≤ cols → Dec (i ≡ k) → Dec (k ≤ i)
              → (cleared_row (get_or used k false) w t z.pivot z.part c k (up_to k)).entry i j ≡ (up_to (k + 1)).entry i j
          go i j m (yes e) d = rw e (cleared_row_lem j m ∙ sym (done_row (k + 1) k j (omega arith)))
          go i j m (no e) (yes h) =
              let l : k + 1 ≤ i = past (dec_le (k + 1) i) in
              cleared_other w t _ _ c k _ (get_or used k false) i j e ∙ open_row k i j h ∙ sym (open_row (k + 1) i j l)
            where
              past : Dec (k + 1 ≤ i) → k + 1 ≤ i
              past (yes l) = l
              past (no l) = absurd (e (omega arith))
          go i j m (no e) (no h) =
              let l : i < k = lt_of_not-le h in
              cleared_other w t _ _ c k _ (get_or used k false) i j e ∙ done_row k i j l ∙ sym (done_row (k + 1) i j (omega arith))
