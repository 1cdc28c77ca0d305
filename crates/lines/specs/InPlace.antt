-- Transforms in place. A table is changed number by number: below some place it shows one function, from there on another (`Parted`). A pass
-- over a line leads from the state after p passes to the state after one pass more. Newton's differences go from the highest index down: after p
-- passes index e of a line v holds the difference of order min p e at e - p, which is v e at the start and the difference of order e at 0 at the
-- end. The s interleaved lines of a block are `lined` of FlatTables.
use Rattle.std.specs.Prelude.{◌≡◌, ℕ, zero, suc, ◌+◌, ◌-◌, ◌*◌, ◌/◌, ◌%◌, ◌^◌, ◌<◌, ◌≤◌, min, ◌⊎◌, List, length, slice_set, refl}
use Rattle.std.proofs.Common.{sym, ap, ap₂, ◌∙◌, inl, inr, suc-le-suc, lt_irrefl, lt_of_lt_of_le, not-suc-le-zero, add-zero, add-suc, le_refl, eq-or-lt_of_le, le_of_suc-le-suc, div-add-mod', le-div_iff_mul-le, div-lt_iff_lt-mul, mul_comm, sub-eq-zero_of_le, add-one, sub-one, arith, length-set, get_or-set_same, get_or-set_other, le_trans}
use Rattle.std.proofs.Math.Nat.{add-mod_right, add-div_right, suc-min-suc, suc-sub-suc, zero-min, sub-zero, min-eq_left, min-eq_right}
use Rattle.std.proofs.Math.Decide.{dec_le}
use Rattle.std.proofs.Math.Arith.{digits_div, digits_mod}
use Rattle.meaning.specs.Tables.{at}
use Rattle.meaning.specs.Differences.{minus, diff, diffs, newton}
use Rattle.theory.specs.Newton.{diffs-suc}
use Rattle.lines.specs.FlatTables.{Local, lined}
use Rattle.theory.specs.AlongEach.{Line}

-- ---- tables that show functions

-- the table has n numbers, and number i is f i
pub record Shows (f : ℕ → ℕ) (n : ℕ) (t : List ℕ) : Type 0 where
  pub same : length t ≡ n
  pub entry : (i : ℕ) → i < n → at t i ≡ f i

-- the table has n numbers, those of `low` below place i and those of `high` from there on
pub record Parted (low high : ℕ → ℕ) (n i : ℕ) (t : List ℕ) : Type 0 where
  pub same : length t ≡ n
  pub below : (j : ℕ) → j < i → j < n → at t j ≡ low j
  pub above : (j : ℕ) → i ≤ j → j < n → at t j ≡ high j

module _ {low high : ℕ → ℕ} {n : ℕ} {t : List ℕ} where
  -- a table of `low` may be taken for `high` where the two are the same, and the other way round
  pub parted_of_low : (i : ℕ) → Shows low n t →
      ((j : ℕ) → i ≤ j → j < n → low j ≡ high j) → Parted low high n i t
  parted_of_low i r same =
      record { same = r.same; below = λ j p q. r.entry j q; above = λ j p q. r.entry j q ∙ same j p q }

  pub parted_of_high : (i : ℕ) → Shows high n t →
      ((j : ℕ) → j < i → j < n → low j ≡ high j) → Parted low high n i t
  parted_of_high i r same =
      record { same = r.same; below = λ j p q. r.entry j q ∙ sym (same j p q); above = λ j p q. r.entry j q }

  -- the two are one where they are the same on one side of the place
  pub shows_high : {i : ℕ} → Parted low high n i t → ((j : ℕ) → j < i → j < n → low j ≡ high j) → Shows high n t
  shows_high {i} r same = record { same = r.same; entry = λ j q. go j q (dec_le i j) }
    where
      go : (j : ℕ) → j < n → Dec (i ≤ j) → at t j ≡ high j
      go j q (yes p) = r.above j p q
      go j q (no p) = r.below j (omega arith) q ∙ same j (omega arith) q

  pub shows_low : {i : ℕ} → Parted low high n i t → ((j : ℕ) → i ≤ j → j < n → low j ≡ high j) → Shows low n t
  shows_low {i} r same = record { same = r.same; entry = λ j q. go j q (dec_le i j) }
    where
      go : (j : ℕ) → j < n → Dec (i ≤ j) → at t j ≡ low j
      go j q (yes p) = r.above j p q ∙ sym (same j p q)
      go j q (no p) = r.below j (omega arith) q

  -- the number below the place is set
  pub parted_down : {i : ℕ} → Parted low high n (suc i) t → (v : ℕ) → v ≡ high i → Parted low high n i (slice_set t i v)
  parted_down {i} r v e =
      record {
        same = length-set t i v ∙ r.same;
        below = λ j p q. get_or-set_other t i j v 0 (omega arith) ∙ r.below j (omega arith) q;
        above = λ j p q. go j q (eq-or-lt_of_le p);
      }
    where
      go : (j : ℕ) → j < n → (i ≡ j) ⊎ (i < j) → at (slice_set t i v) j ≡ high j
      go j q (inl p) = rw (← p) (get_or-set_same t i v 0 (omega (arith, r.same)) ∙ e)
      go j q (inr p) = get_or-set_other t i j v 0 (omega arith) ∙ r.above j p q

  -- the number at the place is set
  pub parted_up : {i : ℕ} → Parted low high n i t → (v : ℕ) → v ≡ low i → Parted low high n (suc i) (slice_set t i v)
  parted_up {i} r v e =
      record {
        same = length-set t i v ∙ r.same;
        below = λ j p q. go j q (eq-or-lt_of_le (le_of_suc-le-suc p));
        above = λ j p q. get_or-set_other t i j v 0 (omega arith) ∙ r.above j (omega arith) q;
      }
    where
      go : (j : ℕ) → j < n → (j ≡ i) ⊎ (j < i) → at (slice_set t i v) j ≡ low j
      go j q (inl p) = rw p (get_or-set_same t i v 0 (omega (arith, r.same)) ∙ e)
      go j q (inr p) = get_or-set_other t i j v 0 (omega arith) ∙ r.below j p q

-- ---- one step along the lines of a block

module _ (s : ℕ) (pos : 0 < s) where
  -- one stride further is the next index of the same line
  pub lined-add : (line : Line) (d : ℕ) (f : ℕ → ℕ) (i : ℕ) → lined line s d f (i + s) ≡ line d (λ x. f (x * s + i % s)) (suc (i / s))
  unfolding lined
  lined-add line d f i = rw (add-mod_right i s, add-div_right i pos, add-one)

  -- the x-th number of the line with offset r
  pub lined-at : (line : Line) (d : ℕ) (f : ℕ → ℕ) (x : ℕ) {r : ℕ} → r < s → lined line s d f (x * s + r) ≡ line d (λ y. f (y * s + r)) x
  unfolding lined
  lined-at line d f x h = rw (digits_mod x h, digits_div x h)

  -- places from s * p on are those of indices from p on
  pub index_le : (p i : ℕ) → s * p ≤ i → p ≤ i / s
  index_le p i h = (le-div_iff_mul-le pos).1 (rw (mul_comm p s) h)

  pub index_lt : (p i : ℕ) → i < s * p → i / s < p
  index_lt p i h = (div-lt_iff_lt-mul pos).1 (rw (mul_comm p s) h)

-- ---- Newton's differences

-- a difference of order n at x reads n + 1 numbers from x on
pub diffs_local : (m n : ℕ) (v w : ℕ → ℕ) (x : ℕ) →
    ((i : ℕ) → i ≤ n → v (x + i) ≡ w (x + i)) → diffs m n v x ≡ diffs m n w x
unfolding diffs
diffs_local m zero v w x h = rw add-zero at (h 0 (le_refl 0))
diffs_local m (suc n) v w x h =
    diffs_local m n (diff m v) (diff m w) x
    (λ i p. ap₂ (minus m) (rw add-suc at (h (suc i) (suc-le-suc p))) (h i (omega arith)))

-- one line's differences read the line only
pub newton_local : (m : ℕ) → Local (newton m)
unfolding newton
newton_local m d v w same e h = diffs_local m e v w 0 (λ i p. same (0 + i) (omega arith))

-- a line after p passes
unfoldable pub differenced : ℕ → ℕ → Line
differenced m p d v e = diffs m (min p e) v (e - p)

-- nothing is done
differenced-start : (m d : ℕ) (v : ℕ → ℕ) (e : ℕ) → differenced m 0 d v e ≡ v e
unfolding differenced diffs
differenced-start m d v e = rw (zero-min, sub-zero)

-- above index p a pass takes the difference
differenced-step : (m p d : ℕ) (v : ℕ → ℕ) (e : ℕ) → p ≤ e →
    differenced m (suc p) d v (suc e) ≡ minus m (differenced m p d v (suc e)) (differenced m p d v e)
unfolding differenced diff
differenced-step m p d v e h =
    rw
    (suc-min-suc, suc-sub-suc, min-eq_left h, min-eq_left {n = p} {m = suc e} (omega arith), sub-shift)
    (diffs-suc m p v (e - p))
  where
    sub-shift : suc e - p ≡ suc (e - p)
    sub-shift = omega arith

-- up to index p all is done
differenced_done : (m p d : ℕ) (v : ℕ → ℕ) (e : ℕ) → e ≤ p → differenced m p d v e ≡ newton m d v e
unfolding differenced newton
differenced_done m p d v e h = rw (min-eq_right h, sub-eq-zero_of_le h)

-- so a pass changes nothing there
differenced_keep : (m p d : ℕ) (v : ℕ → ℕ) (e : ℕ) → e ≤ p → differenced m (suc p) d v e ≡ differenced m p d v e
differenced_keep m p d v e h =
    differenced_done m (suc p) d v e (omega arith) ∙ sym (differenced_done m p d v e h)

-- one number of pass p + 1, by the numbers of pass p
pub lined-differenced : (m s p d : ℕ) (f : ℕ → ℕ) (i : ℕ) → 0 < s → s * suc p ≤ i + s →
    lined (differenced m (suc p)) s d f (i + s) ≡ minus m (lined (differenced m p) s d f (i + s)) (lined (differenced m p) s d f i)
unfolding lined
lined-differenced m s p d f i pos h =
    lined-add s pos (differenced m (suc p)) d f i
    ∙ differenced-step m p d _ (i / s) (index_le s pos p i (omega arith))
    ∙ ap (λ x. minus m x (lined (differenced m p) s d f i)) (sym (lined-add s pos (differenced m p) d f i))

-- the numbers below index p + 1 stay
pub lined-kept : (m s p d : ℕ) (f : ℕ → ℕ) (i : ℕ) → 0 < s → i < s * suc p → lined (differenced m (suc p)) s d f i ≡ lined (differenced m p) s d f i
unfolding lined
lined-kept m s p d f i pos h = differenced_keep m p d _ (i / s) (le_of_suc-le-suc (index_lt s pos (suc p) i h))

-- the table is 0 from a place on
abbrev pub ZeroFrom : ℕ → List ℕ → Type 0
ZeroFrom from t = (i : ℕ) → from ≤ i → i < length t → at t i ≡ 0

-- a block of n numbers, f at the start, after p passes
pub record NewtonPassed (m s d : ℕ) (f : ℕ → ℕ) (n p : ℕ) (t : List ℕ) : Type 0 where
  pub shows : Shows (lined (differenced m p) s d f) n t

-- the same within pass p + 1, which has come down to place i
pub record NewtonPass (m s d : ℕ) (f : ℕ → ℕ) (n p i : ℕ) (t : List ℕ) : Type 0 where
  pub parted : Parted (lined (differenced m p) s d f) (lined (differenced m (suc p)) s d f) n i t

-- before the first pass
pub newton-start : (m s d : ℕ) (t : List ℕ) → NewtonPassed m s d (at t) (length t) 0 t
unfolding lined
newton-start m s d t =
    record
    { shows = record { same = refl; entry = λ i p. ap (at t) (sym (div-add-mod' i s)) ∙ sym (differenced-start m d _ (i / s)) } }

module _ {m s d : ℕ} {f : ℕ → ℕ} {n : ℕ} {t : List ℕ} where
  -- a pass begins at the upper end
  pub newton_pass_start : {p : ℕ} → NewtonPassed m s d f n p t → NewtonPass m s d f n p n t
  newton_pass_start r =
      record { parted = parted_of_low n r.shows (λ j p q. absurd (lt_irrefl _ (lt_of_lt_of_le q p))) }

  -- one number of a pass
  pub newton_pass_step : {p i : ℕ} → 0 < s → s * suc p < i → i ≤ n → NewtonPass m s d f n p i t →
      NewtonPass m s d f n p (i - 1) (slice_set t (i - 1) (minus m (at t (i - 1)) (at t (i - 1 - s))))
  newton_pass_step {i = zero} pos h l r = absurd (not-suc-le-zero h)
  newton_pass_step {p} {i = suc i} pos h l r = rw sub-one (record { parted = parted_down r.parted _ number })
    where
      up : i - s + s ≡ i
      up = omega arith

      number : minus m (at t i) (at t (i - s)) ≡ lined (differenced m (suc p)) s d f i
      number =
          ap₂ (minus m) (r.parted.below i (omega arith) (omega arith)) (r.parted.below (i - s) (omega arith) (omega arith))
          ∙ (rw up at (sym (lined-differenced m s p d f (i - s) pos (omega arith))))

  -- a pass ends where only indices up to p are left
  pub newton_pass_done : {p i : ℕ} → 0 < s → i ≤ s * suc p → NewtonPass m s d f n p i t → NewtonPassed m s d f n (suc p) t
  newton_pass_done {p} {i} pos h r =
      record { shows = shows_high r.parted (λ j q l. sym (lined-kept m s p d f j pos (lt_of_lt_of_le q h))) }

  -- after d passes or more the table is done
  pub newton_done : {p : ℕ} → 0 < s → n ≡ s * suc d → d ≤ p → NewtonPassed m s d f n p t → Shows (lined (newton m) s d f) n t
  unfolding lined
  newton_done {p} pos whole enough r =
      record { same = r.shows.same; entry = λ i q. r.shows.entry i q ∙ differenced_done m p d _ (i / s) (low i q) }
    where
      low : (i : ℕ) → i < n → i / s ≤ p
      low i q = le_trans (le_of_suc-le-suc (index_lt s pos (suc d) i (rw whole at q))) enough

-- the pass that ends at place `low` is made, and that one and the next one are, over whatever lines the part may be in the middle of
abbrev pub PassDone : (s low : ℕ) → List ℕ → List ℕ → Type 0
PassDone s low t u =
    (d p : ℕ) (f : ℕ → ℕ) → low ≡ s * suc p → NewtonPassed (2 ^ 64) s d f (length t) p t → NewtonPassed (2 ^ 64) s d f (length t) (suc p) u

abbrev pub PairDone : (s low : ℕ) → List ℕ → List ℕ → Type 0
PairDone s low t u =
    (d p : ℕ) (f : ℕ → ℕ) → low ≡ s * suc p → NewtonPassed (2 ^ 64) s d f (length t) p t → NewtonPassed (2 ^ 64) s d f (length t) (suc (suc p)) u
