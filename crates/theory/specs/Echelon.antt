-- What the elimination has done after c columns: entries are small; unused rows are 0 in the columns done; a pivot row is used, is 0 to the left of
-- its column, and its entry there is not 0; every used row is the pivot row of a column done.
-- In an unused row the column at hand becomes 0 because the pivot is lowest, so that its power of two divides the entry there.
use Rattle.std.specs.Prelude.{◌≡◌, refl, Bool, true, false, ◌||◌, ℕ, zero, suc, ◌*◌, ◌%◌, ◌^◌, ◌<◌, eqb}
use Rattle.std.proofs.Common.{sym, ap, subst, ◌∙◌, ⊎_elim, not-suc-le-zero, le_refl, lt_irrefl, ne_of_lt, zero-mul, mul-zero, mod-eq_of_lt, arith, pow_pos, eqb-true}
use Rattle.std.proofs.lemmas.Bool.{false≢true}
use Rattle.meaning.specs.Factorials.{twos_of}
use Rattle.meaning.specs.Elimination.{quotient, State, start, height, Lowest, chosen, step, forward, eliminated}
use Rattle.theory.specs.Congruence.{Cong, cong_of_eq, cong_sym, minus-lt}
use Rattle.theory.specs.LinearSystems.{minus_of_cong}
use Rattle.theory.specs.OneEquation.{quotient-mul}
use Rattle.theory.specs.Trailing.{zero_of_twos_of}
use Rattle.theory.specs.Every.{last}
use Rattle.theory.specs.Pivots.{Found, Missing, chosen_cases, height_unused, found_unused, found-twos, divides_of_twos}
use Rattle.theory.specs.Elimination.{kept, multiplier, step_used, step_kept, step_cleared, step_pivot_same, step_pivot_other, kept_pivot, kept_used, multiplier_missing}

-- r is the pivot row of column j
pub record PivotRow (w : ℕ) (s : State) (j r : ℕ) : Type 0 where
  pub is_used : s.used r ≡ true
  pub low : twos_of w (s.entry r j) < w
  pub zeros : (k : ℕ) → k < j → s.entry r k ≡ 0

-- row i is the pivot row of a column below c
pub record ItsColumn (s : State) (c i : ℕ) : Type 0 where
  pub column : ℕ
  pub below : column < c
  pub pivot_eq : s.pivot column ≡ i

pub record Echelon (w rows : ℕ) (s : State) (c : ℕ) : Type 0 where
  pub small : (i j : ℕ) → s.entry i j < 2 ^ w
  pub cleared : (i : ℕ) → i < rows → s.used i ≡ false → (j : ℕ) → j < c → s.entry i j ≡ 0
  pub pivots : (j : ℕ) → j < c → s.pivot j < rows → PivotRow w s j (s.pivot j)
  pub columns : (i : ℕ) → i < rows → s.used i ≡ true → ItsColumn s c i

-- before the first column
pub echelon_start : (w rows : ℕ) (A : ℕ → ℕ → ℕ) → ((i j : ℕ) → A i j < 2 ^ w) → Echelon w rows (start A) 0
unfolding start
echelon_start w rows A small =
    record {
      small = small;
      cleared = λ i h e j l. absurd (not-suc-le-zero l);
      pivots = λ j l. absurd (not-suc-le-zero l);
      columns = λ i h e. absurd (false≢true e);
    }

-- a disjunction is false only where both are
pub or_left_false : (a b : Bool) → (a || b) ≡ false → a ≡ false
or_left_false false b e = refl
or_left_false true b e = e

module _ (w rows : ℕ) (s : State) (c : ℕ) (h : Echelon w rows s c) where
  -- in the columns done and in the one at hand, the multiple of the pivot row is the unused row's entry
  clears : (i : ℕ) → i < rows → s.used i ≡ false → (j : ℕ) → j < suc c
      → Cong (2 ^ w) (s.entry i j) (multiplier w rows s c i * s.entry (chosen w rows s c).row j)
  clears i l e j below =
      last (λ j. Cong (2 ^ w) (s.entry i j) (multiplier w rows s c i * s.entry (chosen w rows s c).row j)) j below here done
    where
      b : Lowest
      b = chosen w rows s c

      q : ℕ
      q = multiplier w rows s c i

      -- where q times the entry x is 0, and so is the row's entry
      both : (j x : ℕ) → s.entry i j ≡ 0 → q * x ≡ 0 → Cong (2 ^ w) (s.entry i j) (q * x)
      both j x d z = cong_of_eq (2 ^ w) (d ∙ sym z)

      nothing : Missing rows w (height w s c) rows b → (x : ℕ) → q * x ≡ 0
      nothing m x = ap (◌* x) (multiplier_missing w rows s c m i) ∙ zero-mul x

      done : j < c → Cong (2 ^ w) (s.entry i j) (q * s.entry b.row j)
      done k =
          let d = h.cleared i l e j k in
          ⊎_elim
          (λ (f : Found w (height w s c) rows b).
          both j (s.entry b.row j) d (ap (q *◌) (h.cleared b.row f.inside (found_unused w rows s c b f) j k) ∙ mul-zero q))
          (λ (m : Missing rows w (height w s c) rows b). both j (s.entry b.row j) d (nothing m _))
          (chosen_cases w rows s c)

      here : Cong (2 ^ w) (s.entry i c) (q * s.entry b.row c)
      here =
          ⊎_elim
          (λ (f : Found w (height w s c) rows b).
          let t = found-twos w rows s c b f in
          let divides : s.entry i c % 2 ^ twos_of w (s.entry b.row c) ≡ 0 =
          divides_of_twos w _ (s.entry i c) (omega (arith, t, f.least i l, height_unused w s c i e)) in
          subst (λ (k : ℕ). Cong (2 ^ w) (s.entry i c) (quotient w k (s.entry b.row c) (s.entry i c) * s.entry b.row c)) (sym t)
          (cong_sym (quotient-mul w (s.entry b.row c) (s.entry i c) divides)))
          (λ (m : Missing rows w (height w s c) rows b).
          let z : s.entry i c % 2 ^ w ≡ 0 = zero_of_twos_of w (s.entry i c) (omega (arith, m.high i l, height_unused w s c i e)) in
          both c (s.entry b.row c) (sym (mod-eq_of_lt (h.small i c)) ∙ z) (nothing m _))
          (chosen_cases w rows s c)

  step_small : (i j : ℕ) → (step w rows s c).entry i j < 2 ^ w
  step_small i j = go (kept w rows s c i) refl
    where
      go : (r : Bool) → kept w rows s c i ≡ r → (step w rows s c).entry i j < 2 ^ w
      go true e = rw (step_kept w rows s c i j e) (h.small i j)
      go false e = rw (step_cleared w rows s c i j e) (minus-lt _ _ (pow_pos w))

  -- a pivot row stays one
  pivot_stays : (j r : ℕ) → PivotRow w s j r → PivotRow w (step w rows s c) j r
  pivot_stays j r v =
      let same : (k : ℕ) → (step w rows s c).entry r k ≡ s.entry r k = λ k. step_kept w rows s c r k (kept_used w rows s c r v.is_used) in
      record {
        is_used = step_used w rows s c r ∙ kept_used w rows s c r v.is_used;
        low = rw (same j) v.low;
        zeros = λ k l. same k ∙ v.zeros k l;
      }

  -- the chosen row is one
  pivot_new : (chosen w rows s c).row < rows → PivotRow w (step w rows s c) c (chosen w rows s c).row
  pivot_new l =
      ⊎_elim
      (λ (f : Found w (height w s c) rows (chosen w rows s c)).
      record {
        is_used = step_used w rows s c _ ∙ kept_pivot w rows s c;
        low = rw (same c) (omega (arith, f.low, found-twos w rows s c _ f));
        zeros = λ k q. same k ∙ h.cleared _ l (found_unused w rows s c _ f) k q;
      })
      (λ (m : Missing rows w (height w s c) rows (chosen w rows s c)). absurd (lt_irrefl rows (rw m.row_eq at l)))
      (chosen_cases w rows s c)
    where
      same : (k : ℕ) → (step w rows s c).entry (chosen w rows s c).row k ≡ s.entry (chosen w rows s c).row k
      same k = step_kept w rows s c _ k (kept_pivot w rows s c)

  its_column : (i : ℕ) → i < rows → kept w rows s c i ≡ true → ItsColumn (step w rows s c) (suc c) i
  its_column i l = go (s.used i) refl
    where
      old : ItsColumn s c i → ItsColumn (step w rows s c) (suc c) i
      old k =
          record {
            column = k.column;
            below = omega (arith, k.below);
            pivot_eq = step_pivot_other w rows s c k.column (ne_of_lt k.below) ∙ k.pivot_eq;
          }

      go : (r : Bool) → s.used i ≡ r → (r || eqb i (chosen w rows s c).row) ≡ true → ItsColumn (step w rows s c) (suc c) i
      go true e t = old (h.columns i l e)
      go false e t =
          record { column = c; below = le_refl (suc c); pivot_eq = step_pivot_same w rows s c ∙ sym (eqb-true i _ t) }

  -- one column more
  pub echelon_step : Echelon w rows (step w rows s c) (suc c)
  echelon_step =
      record {
        small = step_small;
        cleared =
            λ i l e j k.
            let e' : kept w rows s c i ≡ false = sym (step_used w rows s c i) ∙ e in
            step_cleared w rows s c i j e' ∙ minus_of_cong (pow_pos w) (clears i l (or_left_false _ _ e') j k);
        pivots =
            λ j k.
            last (λ j. (step w rows s c).pivot j < rows → PivotRow w (step w rows s c) j ((step w rows s c).pivot j)) j k
            (subst (λ (r : ℕ). r < rows → PivotRow w (step w rows s c) c r) (sym (step_pivot_same w rows s c)) pivot_new)
            (λ below.
            subst (λ (r : ℕ). r < rows → PivotRow w (step w rows s c) j r) (sym (step_pivot_other w rows s c j (ne_of_lt below)))
            (λ l. pivot_stays j (s.pivot j) (h.pivots j below l)));
        columns = λ i l e. its_column i l (sym (step_used w rows s c i) ∙ e);
      }

-- after c columns
pub echelon_forward : (w rows : ℕ) (s : State) (c : ℕ) → Echelon w rows s 0 → Echelon w rows (forward w rows s c) c
unfolding forward
echelon_forward w rows s zero h = h
echelon_forward w rows s (suc c) h = echelon_step w rows (forward w rows s c) c (echelon_forward w rows s c h)

-- after all columns
pub echelon_eliminated : (w rows cols : ℕ) (A : ℕ → ℕ → ℕ) → ((i j : ℕ) → A i j < 2 ^ w) → Echelon w rows (eliminated w rows cols A) cols
unfolding eliminated
echelon_eliminated w rows cols A small = echelon_forward w rows (start A) cols (echelon_start w rows A small)
