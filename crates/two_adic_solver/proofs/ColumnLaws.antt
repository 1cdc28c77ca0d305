-- One column eliminated, and the columns one after the other: tables that show a state then show the next one.
use Rattle.std.proofs.Common.{◌≡◌, ℕ, zero, suc, ◌+◌, ◌*◌, ◌<◌, ◌≤◌, Bool, true, false, cond, ◌||◌, ltb, List, length, get_or, set, sym, refl, ap, ◌∙◌, subst, ap₂, ⊎_elim, zero-le, le_refl, lt_irrefl, ne_of_lt, add-one, arith, get_or-set_other, get_or-set_same, ne_eqb}
use Rattle.meaning.specs.Tables.{at}
use Rattle.meaning.specs.Factorials.{twos_of}
use Rattle.meaning.specs.Elimination.{State, Lowest, lowest, height, chosen, step, forward}
use Rattle.theory.specs.Every.{last}
use Rattle.theory.specs.Pivots.{Found, Missing, lowest_cases, chosen_cases}
use Rattle.theory.specs.Elimination.{kept, step_used, step_pivot_same, step_pivot_other, kept_pivot}
use Rattle.theory.specs.Echelon.{echelon_step}
use Rattle.theory.specs.StepLaws.{step_missing}
use Rattle.two_adic_solver.specs.ShownStates.{Shows}
use Rattle.two_adic_solver.specs.Rows.{height_of}
use Rattle.two_adic_solver.specs.Shown.{Clearing, Shown}
use Rattle.two_adic_solver.proofs.ClearLaws.{dec_eq, shows_eq}

-- the lowest row is found from the heights alone
lowest_same : (none w : ℕ) (h k : ℕ → ℕ) (n : ℕ) → ((i : ℕ) → i < n → h i ≡ k i) → lowest none w h n ≡ lowest none w k n
unfolding lowest
lowest_same none w h k zero e = refl
lowest_same none w h k (suc n) e =
    ap₂ (λ (x : ℕ) (b : Lowest). cond (ltb x b.twos) (record { row = n; twos = x }) b) (e n (le_refl (suc n)))
    (lowest_same none w h k n (λ i p. e i (omega arith)))

or_nothing : (a b : Bool) → b ≡ false → (a || b) ≡ a
or_nothing true b e = refl
or_nothing false b e = e

module _ (w rows cols c : ℕ) (mat : List ℕ) (used : List Bool) (p : ℕ) (e : p ≡ (lowest rows w (height_of w cols mat used c) rows).row) where
  -- where a pivot is found it is a row, whose entry has fewer twos than the width
  pub pivot_low : (p ≡ rows → ⊥) → (p < rows) × (twos_of w (at mat (p * cols + c)) < w)
  unfolding height_of
  pivot_low ne =
      ⊎_elim
      (λ (f : Found w (height_of w cols mat used c) rows (lowest rows w (height_of w cols mat used c) rows)). (
        subst (◌< rows) (sym e) f.inside,
        free (get_or used p false)
            (subst (λ (k : ℕ). height_of w cols mat used c k < w) (sym e) (subst (◌< w) f.twos_eq f.low)),
      ))
      (λ (m : Missing rows w (height_of w cols mat used c) rows (lowest rows w (height_of w cols mat used c) rows)). absurd (ne (e ∙ m.row_eq)))
      (lowest_cases rows w (height_of w cols mat used c) rows)
    where
      free : (b : Bool) {n : ℕ} → cond b w n < w → n < w
      free false h = h
      free true h = absurd (lt_irrefl w h)

  module _ (rhs pivots : List ℕ) (s : State) (lc : c < cols) (h : Shown w rows cols s c mat rhs used pivots) where
    pub pivot_chosen : p ≡ (chosen w rows s c).row
    unfolding chosen height height_of
    pivot_chosen =
        e
        ∙ ap (λ (b : Lowest). b.row)
        (lowest_same rows w (height_of w cols mat used c) (height w s c) rows
        (λ i l. ap₂ (λ (b : Bool) (n : ℕ). cond b w (twos_of w n)) (h.marked i l) (h.shows.entries i c l lc)))

    noted : (lv : c < length pivots) (j : ℕ) → j < suc c → at (set pivots c p) j ≡ (step w rows s c).pivot j
    noted lv j l =
        last (λ j. at (set pivots c p) j ≡ (step w rows s c).pivot j) j l
        (get_or-set_same pivots c p 0 lv ∙ pivot_chosen ∙ sym (step_pivot_same w rows s c))
        (λ k. get_or-set_other pivots c j p 0 (ne_of_lt k) ∙ h.rows_eq j k ∙ sym (step_pivot_other w rows s c j (ne_of_lt k)))

    -- no pivot: the tables stay, but for the note
    pub column_missing : p ≡ rows → c < length pivots → Shown w rows cols (step w rows s c) (c + 1) mat rhs used (set pivots c p)
    column_missing n lv =
        rw (add-one c)
        (record {
          shows = shows_eq rows cols s _ mat rhs h.shows (λ i j l m. sym (step_missing w rows s c i missing j (h.echelon.small i j)));
          echelon = echelon_step w rows s c h.echelon;
          marked =
              λ i l.
              h.marked i l
              ∙ sym (step_used w rows s c i ∙ or_nothing (s.used i) _ (ne_eqb i _ (λ x. ne_of_lt l (x ∙ sym pivot_chosen ∙ n))));
          rows_eq = noted lv;
        })
      where
        missing : Missing rows w (height w s c) rows (chosen w rows s c)
        missing =
            ⊎_elim
            (λ (f : Found w (height w s c) rows (chosen w rows s c)). absurd (ne_of_lt f.inside (sym pivot_chosen ∙ n)))
            (λ (m : Missing rows w (height w s c) rows (chosen w rows s c)). m)
            (chosen_cases w rows s c)

    -- a pivot: it is marked
    pub column_marked : p < length used → (i : ℕ) → i < rows → get_or (set used p true) i false ≡ kept w rows s c i
    column_marked lu i l = go (dec_eq i p)
      where
        go : Dec (i ≡ p) → get_or (set used p true) i false ≡ kept w rows s c i
        go (yes x) =
            ap (λ (k : ℕ). get_or (set used p true) k false) x
            ∙ get_or-set_same used p true false lu
            ∙ sym (ap (kept w rows s c) (x ∙ pivot_chosen) ∙ kept_pivot w rows s c)
        go (no x) =
            get_or-set_other used p i true false x
            ∙ h.marked i l
            ∙ sym (or_nothing (s.used i) _ (ne_eqb i _ (λ y. x (y ∙ sym pivot_chosen))))

    pub column_clearing : p < length used → Clearing w rows c p (set used p true) s
    column_clearing lu = record { echelon = h.echelon; chosen_eq = pivot_chosen; marked = column_marked lu }

    -- and the column is cleared
    pub column_found : p < length used → c < length pivots → (mat' rhs' : List ℕ) → Shows rows cols (step w rows s c) mat' rhs'
        → Shown w rows cols (step w rows s c) (c + 1) mat' rhs' (set used p true) (set pivots c p)
    column_found lu lv mat' rhs' k =
        rw (add-one c)
        (record {
          shows = k;
          echelon = echelon_step w rows s c h.echelon;
          marked = λ i l. column_marked lu i l ∙ sym (step_used w rows s c i);
          rows_eq = noted lv;
        })

-- ---- all columns

-- the first c columns eliminated, whatever state the tables showed
pub record Passed (w cols : ℕ) (mat₀ rhs₀ : List ℕ) (used₀ : List Bool) (piv₀ mat rhs : List ℕ) (used : List Bool) (piv : List ℕ) (c : ℕ) : Type 0 where
  pub same_right : length rhs ≡ length rhs₀
  pub same_pivots : length piv ≡ length piv₀
  pub within : c ≤ cols
  pub so_far : (s : State) → Shown w (length rhs₀) cols s 0 mat₀ rhs₀ used₀ piv₀
      → Shown w (length rhs₀) cols (forward w (length rhs₀) s c) c mat rhs used piv

module _ (w cols : ℕ) (mat₀ rhs₀ : List ℕ) (used₀ : List Bool) (piv₀ : List ℕ) where
  pub passed_start : Passed w cols mat₀ rhs₀ used₀ piv₀ mat₀ rhs₀ used₀ piv₀ 0
  unfolding forward
  passed_start =
      record { same_right = refl; same_pivots = refl; within = zero-le; so_far = λ s h. h }

  pub passed-step : (mat rhs : List ℕ) (used : List Bool) (piv mat' rhs' : List ℕ) (used' : List Bool) (piv' : List ℕ) (c : ℕ)
      → Passed w cols mat₀ rhs₀ used₀ piv₀ mat rhs used piv c → c < cols
      → length rhs' ≡ length rhs → length piv' ≡ length piv
      → ((s : State) → Shown w (length rhs) cols s c mat rhs used piv
      → Shown w (length rhs) cols (step w (length rhs) s c) (c + 1) mat' rhs' used' piv')
      → Passed w cols mat₀ rhs₀ used₀ piv₀ mat' rhs' used' piv' (c + 1)
  unfolding forward
  passed-step mat rhs used piv mat' rhs' used' piv' c r l er ep f =
      record {
        same_right = er ∙ r.same_right;
        same_pivots = ep ∙ r.same_pivots;
        within = omega arith;
        so_far =
            λ s h.
            subst (λ (n : ℕ). Shown w (length rhs₀) cols (forward w (length rhs₀) s n) (c + 1) mat' rhs' used' piv') (sym (add-one c))
            (subst (λ (n : ℕ). (s : State) → Shown w n cols s c mat rhs used piv → Shown w n cols (step w n s c) (c + 1) mat' rhs' used' piv')
            r.same_right f (forward w (length rhs₀) s c) (r.so_far s h));
      }
