-- The box of a fit, cell by cell: a column's cell has the column's value modulo its bound, every other cell 0; and the degree used is the largest
-- total degree among the columns whose reduced value is not 0.
use Rattle.std.specs.Prelude.{◌≡◌, refl, ◌⊎◌, Bool, true, false, List, [], leb, eqb, length, get_or, cond, ℕ, zero, suc, ◌%◌, ◌≤◌, ◌<◌, max}
use Rattle.std.proofs.Common.{sym, ap, ◌∙◌, inr, not-suc-le-zero, le_of_suc-le-suc, zero-lt-suc, le_of_eq, lt_of_lt_of_le, lt_irrefl, arith, leb-true, leb-false, ne_eqb, inl, ⊎_elim, zero-le, suc-le-suc, le_trans, le_antisymm}
use Rattle.std.proofs.Math.Nat.{zero-mod}
use Rattle.std.proofs.Math.Decide.{dec_le}
use Rattle.std.proofs.lemmas.Bool.{eqb-false}
use Rattle.meaning.specs.Tables.{at}
use Rattle.meaning.specs.Boxes.{cells, digits, cell, Within}
use Rattle.meaning.specs.Values.{bound}
use Rattle.meaning.specs.Leaves.{largest}
use Rattle.meaning.specs.Fit.{total, columns, value_of, fit_box_of, degree_used_of}
use Rattle.theory.specs.Tables.{at-tabulate}
use Rattle.theory.specs.Boxes.{cell-lt, cell-digits, digits-cell, digits-within}
use Rattle.theory.specs.Columns.{In, here, there, in_get_or, in-columns-iff, columns_ordered}
use Rattle.theory.specs.ColumnValues.{value_of_absent, value_of_column}

-- ---- the largest of some numbers

-- no entry is above it
pub le-largest : (n : ℕ) (f : ℕ → ℕ) (i : ℕ) → i < n → f i ≤ largest n f
unfolding largest
le-largest zero f i h = absurd (not-suc-le-zero h)
le-largest (suc n) f zero h = omega arith
le-largest (suc n) f (suc i) h = omega (arith, le-largest n (λ i. f (suc i)) i (le_of_suc-le-suc h))

-- it is not above what no entry is above
pub largest-le : (n : ℕ) (f : ℕ → ℕ) (b : ℕ) → ((i : ℕ) → i < n → f i ≤ b) → largest n f ≤ b
unfolding largest
largest-le zero f b h = zero-le
largest-le (suc n) f b h = omega (arith, h 0 (zero-lt-suc n), largest-le n (λ i. f (suc i)) b (λ i p. h (suc i) (suc-le-suc p)))

-- it is 0 or one of the entries
pub largest_met : (n : ℕ) (f : ℕ → ℕ) → (largest n f ≡ 0) ⊎ ((i : ℕ) × (i < n) × (f i ≡ largest n f))
unfolding largest
largest_met zero f = inl refl
largest_met (suc n) f = go (dec_le (largest n rest) (f 0)) (largest_met n rest)
  where
    rest : ℕ → ℕ
    rest i = f (suc i)

    Met : Type 0
    Met = (max (f 0) (largest n rest) ≡ 0) ⊎ ((i : ℕ) × (i < suc n) × (f i ≡ max (f 0) (largest n rest)))

    go : Dec (largest n rest ≤ f 0) → (largest n rest ≡ 0) ⊎ ((i : ℕ) × (i < n) × (rest i ≡ largest n rest)) → Met
    go (yes h) m = inr (0, zero-lt-suc n, omega arith)
    go (no h) (inl z) = absurd (h (omega arith))
    go (no h) (inr m) = inr (suc m.0, suc-le-suc m.1, omega (arith, m.2))

-- ---- the degree used

-- the degree of a coefficient of the exponent list es: its total degree, or 0 where it is 0
abbrev degree_of_lem : List ℕ → ℕ → ℕ
degree_of_lem es v = cond (eqb v 0) 0 (total es)

module _ (ds c : List ℕ) where
  -- no coefficient that is not 0 has a higher total degree
  pub degree_used_of_most : (n : ℕ) → n < cells ds → (at c n ≡ 0 → ⊥) → total (digits ds n) ≤ degree_used_of ds c
  unfolding degree_used_of
  degree_used_of_most n h ne =
      let by_cell : ℕ → ℕ = λ n. degree_of_lem (digits ds n) (at c n) in
      le_trans (le_of_eq (ap (λ (b : Bool). cond b 0 (total (digits ds n))) (sym (ne_eqb (at c n) 0 ne)))) (le-largest (cells ds) by_cell n h)

  -- and it is 0 or the total degree of one of them
  pub degree_used_of_met : (degree_used_of ds c ≡ 0) ⊎ ((n : ℕ) × (n < cells ds) × (at c n ≡ 0 → ⊥) × (total (digits ds n) ≡ degree_used_of ds c))
  unfolding degree_used_of
  degree_used_of_met = ⊎_elim inl (λ m. go m (eqb (at c m.0) 0) refl) (largest_met (cells ds) by_cell)
    where
      by_cell : ℕ → ℕ
      by_cell n = degree_of_lem (digits ds n) (at c n)

      most : ℕ
      most = largest (cells ds) by_cell

      go : (m : (n : ℕ) × (n < cells ds) × (by_cell n ≡ most)) → (b : Bool) → eqb (at c m.0) 0 ≡ b
          → (most ≡ 0) ⊎ ((n : ℕ) × (n < cells ds) × (at c n ≡ 0 → ⊥) × (total (digits ds n) ≡ most))
      go m true e = inl (sym m.2 ∙ ap (λ (b : Bool). cond b 0 (total (digits ds m.0))) e)
      go m false e =
          inr (m.0, m.1, eqb-false _ 0 e, sym (ap (λ (b : Bool). cond b 0 (total (digits ds m.0))) e) ∙ m.2)

-- ---- places of columns

-- a place where a list stands
pub record Place (g : List ℕ) (fs : List (List ℕ)) : Type 0 where
  pub place : ℕ
  pub below : place < length fs
  pub there_is : get_or fs place [] ≡ g

pub place_of : {g : List ℕ} {fs : List (List ℕ)} → In g fs → Place g fs
place_of (here {f} {fs} e) = record { place = 0; below = zero-lt-suc (length fs); there_is = sym e }
place_of (there i) =
    let p = place_of i in
    record { place = suc p.place; below = suc-le-suc p.below; there_is = p.there_is }

module _ (w : ℕ) (ds : List ℕ) (most : ℕ) (x : ℕ → ℕ) where
  abbrev fs : List (List ℕ)
  fs = columns ds most

  -- the exponent list of column c lies within the box, and its total degree is bounded
  pub column_within : (c : ℕ) → c < length (columns ds most) → Within ds (get_or (columns ds most) c [])
  column_within c h = ((in-columns-iff ds most _).0 (in_get_or (columns ds most) c h)).0

  pub column_bounded : (c : ℕ) → c < length (columns ds most) → total (get_or (columns ds most) c []) ≤ most
  column_bounded c h = ((in-columns-iff ds most _).0 (in_get_or (columns ds most) c h)).1

  -- the coefficient in cell n
  pub fit_box_of-entry : (n : ℕ) → n < cells ds → at (fit_box_of w ds (columns ds most) x) n ≡ value_of (columns ds most) x (digits ds n) % bound w (digits ds n)
  unfolding fit_box_of
  fit_box_of-entry n h = at-tabulate (cells ds) (λ n. value_of (columns ds most) x (digits ds n) % bound w (digits ds n)) n h

  -- column c's cell has its value modulo the bound
  pub fit_box_of_column : (c : ℕ) → c < length (columns ds most)
      → at (fit_box_of w ds (columns ds most) x) (cell ds (get_or (columns ds most) c [])) ≡ x c % bound w (get_or (columns ds most) c [])
  fit_box_of_column c h =
      let i = column_within c h in
      fit_box_of-entry (cell ds (get_or (columns ds most) c [])) (cell-lt i)
      ∙ ap (λ (es : List ℕ). value_of (columns ds most) x es % bound w es) (digits-cell i)
      ∙ ap (◌% bound w (get_or (columns ds most) c [])) (value_of_column (columns_ordered ds most) x c h)

  -- a cell of a higher total degree has 0
  pub fit_box_of_other : (n : ℕ) → n < cells ds → most < total (digits ds n) → at (fit_box_of w ds (columns ds most) x) n ≡ 0
  fit_box_of_other n h l =
      fit_box_of-entry n h
      ∙ ap (◌% bound w (digits ds n))
      (value_of_absent (columns ds most) x (digits ds n) (λ i. lt_irrefl most (lt_of_lt_of_le l ((in-columns-iff ds most (digits ds n)).0 i).1)))
      ∙ zero-mod (bound w (digits ds n))

  -- the degree used, column by column
  pub degree_used_of-columns :
      degree_used_of ds (fit_box_of w ds (columns ds most) x)
      ≡ largest (length (columns ds most))
      (λ c. cond (eqb (x c % bound w (get_or (columns ds most) c [])) 0) 0 (total (get_or (columns ds most) c [])))
  unfolding degree_used_of
  degree_used_of-columns =
      le_antisymm
      (largest-le (cells ds) by_cell _ (λ n h. cell-le n h (leb (total (digits ds n)) most) refl))
      (largest-le (length fs) by_column _ (λ c h. le_trans (le_of_eq (sym (same c h))) (le-largest (cells ds) by_cell (cell ds (get_or fs c [])) (cell-lt (column_within c h)))))
    where
      by_cell : ℕ → ℕ
      by_cell n = degree_of_lem (digits ds n) (at (fit_box_of w ds fs x) n)

      by_column : ℕ → ℕ
      by_column c = degree_of_lem (get_or fs c []) (x c % bound w (get_or fs c []))

      same : (c : ℕ) → c < length fs → by_cell (cell ds (get_or fs c [])) ≡ by_column c
      same c h =
          ap (λ (v : ℕ). degree_of_lem (digits ds (cell ds (get_or fs c []))) v) (fit_box_of_column c h)
          ∙ ap (λ (es : List ℕ). degree_of_lem es (x c % bound w (get_or fs c []))) (digits-cell (column_within c h))

      cell-le : (n : ℕ) → n < cells ds → (b : Bool) → leb (total (digits ds n)) most ≡ b → by_cell n ≤ largest (length fs) by_column
      cell-le n h true e =
          let p = place_of ((in-columns-iff ds most (digits ds n)).1 (digits-within ds n, leb-true _ most e)) in
          let e' : cell ds (get_or fs p.place []) ≡ n = ap (cell ds) p.there_is ∙ cell-digits ds n h in
          le_trans (le_of_eq (ap by_cell (sym e') ∙ same p.place p.below)) (le-largest (length fs) by_column p.place p.below)
      cell-le n h false e =
          le_trans (le_of_eq (ap (λ (v : ℕ). degree_of_lem (digits ds n) v) (fit_box_of_other n h (leb-false _ most e)))) zero-le
