-- When a call passes. The calls test the causes of refusal in an order and give the number of the first one that applies; here each cause is said by itself,
-- and the number is 0 exactly when none applies.
use Rattle.std.specs.Prelude.{◌≡◌, refl, ◌↔◌, Bool, true, false, ◌&&◌, cond, ℕ, ◌≤◌, ◌<◌, List, [], ◌∷◌, ◌++◌, leb, ltb, eqb, length}
use Rattle.std.proofs.Common.{sym, arith}
use borrow.Author.Tests.{ltb-false, le-ltb, leb-false, lt-leb, eqb-true, eq-eqb, eqb-false, ne_eqb}
use Rattle.meaning.specs.Tables.{at}
use Rattle.meaning.specs.Boxes.{cells}
use Rattle.meaning.specs.Sameness.{Form}
use Rattle.meaning.specs.Settings.{fits_width, some, repeated, limited_number, first}
use Rattle.demand3.specs.Tests.{false-true, and_true, cond-false, cond-true, first-zero, not_6, cond_not_6, first_not_6, none_pass, none_repeated, positive_iff}

-- the width is one that calls take
abbrev pub WidthFits : ℕ → Type 0
WidthFits w = fits_width w ≡ true

-- lent tables, each with the length that is asked
abbrev pub Lengths : Type 0
Lengths = List (List ℕ × ℕ)

-- each has it
abbrev pub Exact : Lengths → Type 0
Exact [] = Unit {0}
Exact (t ∷ ts) = (length t.0 ≡ t.1) × Exact ts

-- A call on a box passes: no cause of refusal applies, each said with its number. `limit` is the most cells of a box; `strict` says that no degree may be 0,
-- as recovery asks; `fits` that the width fits, and is `true` where a call takes any; `tables` has the lent tables with their lengths for a box of n cells.
pub record CallPasses (limit : ℕ) (strict : Bool) (total : ℕ) (fits : Bool) (support ds : List ℕ) (tables : ℕ → Lengths) : Type 0 where
  -- 1: the support is not empty
  pub variable : 0 < length support
  -- 2: there are at most 20 variables
  pub few : total ≤ 20
  -- 3: the width fits
  pub width : fits ≡ true
  -- 4: no degree is 0
  pub degrees : strict ≡ true → (i : ℕ) → i < length ds → 0 < at ds i
  -- 5: every support index is below the total
  pub indices : (i : ℕ) → i < length support → at support i < total
  -- 7: no support index stands twice
  pub distinct : (i j : ℕ) → i < j → j < length support → at support i ≡ at support j → ⊥
  -- 8: the box is within the limit
  pub size : cells ds ≤ limit
  -- 9: every lent table has its exact length
  pub lengths : Exact (tables (cells ds))

-- a form passes: settings as above, a degree 0 allowed, and a coefficient for each cell
abbrev pub FormPasses : Form → Type 0
FormPasses f = CallPasses 65536 false f.total (fits_width f.width) f.support f.degrees (λ n. (f.coefficients, n) ∷ [])

-- ---- lengths

-- the test of lengths, behind another test
abbrev pub exactly : Bool → Lengths → Bool
exactly b [] = b
exactly b (t ∷ ts) = exactly (b && eqb (length t.0) t.1) ts

exactly-iff : (b : Bool) (ts : Lengths) → (exactly b ts ≡ true) ↔ ((b ≡ true) × Exact ts)
exactly-iff b [] = (λ e. (e, tt), λ e. e.0)
exactly-iff b (t ∷ ts) =
    let both = and_true b (eqb (length t.0) t.1) in
    let all = exactly-iff (b && eqb (length t.0) t.1) ts in (
      λ e. let s = all.0 e in let r = both.0 s.0 in (r.0, (eqb-true (length t.0) t.1 r.1, s.1)),
      λ s. all.1 (both.1 (s.0, eq-eqb (length t.0) t.1 s.1.0), s.1.1),
    )

-- 9 where a table does not have its exact length
abbrev nine_unless : Lengths → ℕ
nine_unless ts = cond (exactly true ts) 0 9

nine_iff : (ts : Lengths) → (nine_unless ts ≡ 0) ↔ Exact ts
nine_iff ts =
    let none = cond-true (exactly true ts) 8 0 in
    (λ e. ((exactly-iff true ts).0 (none.0 e).0).1, λ s. none.1 ((exactly-iff true ts).1 (refl, s), refl))

nine_not_6 : (ts : Lengths) → nine_unless ts ≡ 6 → ⊥
nine_not_6 ts = cond_not_6 (exactly true ts) (not_6 0 tt) (not_6 9 tt)

exact_append : (ts us : Lengths) → Exact (ts ++ us) ↔ (Exact ts × Exact us)
exact_append [] us = (λ e. (tt, e), λ s. s.1)
exact_append (t ∷ ts) us =
    let all = exact_append ts us in
    (λ e. let s = all.0 e.1 in ((e.0, s.0), s.1), λ s. (s.0.0, all.1 (s.0.1, s.1)))

-- ---- degrees

-- no degree is 0, where that is asked
degrees_iff : (strict : Bool) (ds : List ℕ) → (strict && some (eqb 0) ds ≡ false) ↔ (strict ≡ true → (i : ℕ) → i < length ds → 0 < at ds i)
degrees_iff true ds =
    let all = none_pass (eqb 0) ds in (
      λ e h i l. let ne : 0 ≡ at ds i → ⊥ = eqb-false 0 (at ds i) (all.0 e i l) in omega arith,
      λ h. all.1 (λ i l. let p : 0 < at ds i = h refl i l in ne_eqb 0 (at ds i) (λ e. omega arith)),
    )
degrees_iff false ds = (λ e h. false-true (sym h), λ h. refl)

-- ---- the number

module _ (limit : ℕ) (strict : Bool) (total : ℕ) (fits : Bool) (support ds : List ℕ) where
  abbrev settings : ℕ
  settings = limited_number limit strict total fits support ds

  pub settings_not_6 : settings ≡ 6 → ⊥
  unfolding limited_number
  settings_not_6 =
      cond_not_6 (eqb (length support) 0) (not_6 1 tt)
      (cond_not_6 (ltb 20 total) (not_6 2 tt)
      (cond_not_6 fits
      (cond_not_6 (strict && some (eqb 0) ds) (not_6 4 tt)
      (cond_not_6 (some (leb total) support) (not_6 5 tt)
      (cond_not_6 (repeated support) (not_6 7 tt)
      (cond_not_6 (ltb limit (cells ds)) (not_6 8 tt) (not_6 0 tt))))) (not_6 3 tt)))

  module _ (before : Lengths) (tables : ℕ → Lengths) where
    -- the first cause: 9 for tables that are looked at before the settings, the settings, 9 for the others
    abbrev cause : ℕ
    cause = first (first (nine_unless before) settings) (nine_unless (tables (cells ds)))

    -- it is 0 exactly when the call passes
    pub passing_iff : (cause ≡ 0) ↔ CallPasses limit strict total fits support ds (λ n. before ++ tables n)
    unfolding limited_number
    passing_iff = (there, back)
      where
        there : cause ≡ 0 → CallPasses limit strict total fits support ds (λ n. before ++ tables n)
        there e =
            let outer = (first-zero (first (nine_unless before) settings) (nine_unless (tables (cells ds)))).0 e in
            let inner = (first-zero (nine_unless before) settings).0 outer.0 in
            let c1 = (cond-false (eqb (length support) 0) 0 _).0 inner.1 in
            let c2 = (cond-false (ltb 20 total) 1 _).0 c1.1 in
            let c3 = (cond-true fits 2 _).0 c2.1 in
            let c4 = (cond-false (strict && some (eqb 0) ds) 3 _).0 c3.1 in
            let c5 = (cond-false (some (leb total) support) 4 _).0 c4.1 in
            let c7 = (cond-false (repeated support) 6 _).0 c5.1 in
            let c8 = (cond-false (ltb limit (cells ds)) 7 _).0 c7.1 in
            record {
              variable = (positive_iff (length support)).0 c1.0;
              few = ltb-false 20 total c2.0;
              width = c3.0;
              degrees = (degrees_iff strict ds).0 c4.0;
              indices = λ i l. leb-false total (at support i) ((none_pass (leb total) support).0 c5.0 i l);
              distinct = (none_repeated support).0 c7.0;
              size = ltb-false limit (cells ds) c8.0;
              lengths = (exact_append before (tables (cells ds))).1 ((nine_iff before).0 inner.0, (nine_iff (tables (cells ds))).0 outer.1);
            }

        back : CallPasses limit strict total fits support ds (λ n. before ++ tables n) → cause ≡ 0
        back s =
            let exact = (exact_append before (tables (cells ds))).0 s.lengths in
            let c8 = (cond-false (ltb limit (cells ds)) 7 _).1 (le-ltb limit (cells ds) s.size, refl) in
            let c7 = (cond-false (repeated support) 6 _).1 ((none_repeated support).1 s.distinct, c8) in
            let c5 = (cond-false (some (leb total) support) 4 _).1 ((none_pass (leb total) support).1 (λ i l. lt-leb total (at support i) (s.indices i l)), c7) in
            let c4 = (cond-false (strict && some (eqb 0) ds) 3 _).1 ((degrees_iff strict ds).1 s.degrees, c5) in
            let c3 = (cond-true fits 2 _).1 (s.width, c4) in
            let c2 = (cond-false (ltb 20 total) 1 _).1 (le-ltb 20 total s.few, c3) in
            let c1 = (cond-false (eqb (length support) 0) 0 _).1 ((positive_iff (length support)).1 s.variable, c2) in
            let inner = (first-zero (nine_unless before) settings).1 ((nine_iff before).1 exact.0, c1) in
            (first-zero (first (nine_unless before) settings) (nine_unless (tables (cells ds)))).1 (inner, (nine_iff (tables (cells ds))).1 exact.1)

    -- and never 6
    pub passing_not_6 : cause ≡ 6 → ⊥
    passing_not_6 =
        first_not_6 (first (nine_unless before) settings) (nine_unless (tables (cells ds)))
        (first_not_6 (nine_unless before) settings (nine_not_6 before) settings_not_6) (nine_not_6 (tables (cells ds)))
