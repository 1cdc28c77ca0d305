-- The columns counted by running sums: the counts with a variable more are sums of the counts without it, each of as many as the degree and one more.
use Rattle.std.proofs.Common.{◌≡◌, refl, sym, ap, ◌∙◌, Bool, cond, List, [], ◌∷◌, ℕ, zero, suc, ◌+◌, ◌*◌, ◌-◌, ◌≤◌, ◌<◌, min, zero-le, le_trans, le_of_eq, le_refl, le-mul_of_pos_right, zero-lt-suc, mul-le-mul_right, arith, lt-ltb, le-ltb, ltb, length, drop, drop_of_length-le, drop-cons}
use Rattle.std.proofs.Math.Decide.{dec_le}
use Rattle.std.proofs.Math.ListN.{get_or-eq_default}
use Rattle.meaning.specs.Tables.{tabulate, at}
use Rattle.meaning.specs.Sums.{sum}
use Rattle.meaning.specs.Boxes.{cells}
use Rattle.meaning.specs.Fit.{columns}
use Rattle.theory.specs.Sums.{sum_last, sum_eq, sum-le}
use Rattle.theory.specs.Tables.{at-tabulate, length-tabulate, tabulate_cong}
use Rattle.theory.specs.ColumnCount.{columns-le-cells, count_none, count-cons}

-- ---- the running sum

module _ (d : ℕ) (f : ℕ → ℕ) where
  -- the sum of the d + 1 entries before place s, or of all where they are fewer
  abbrev pub recent : ℕ → ℕ
  recent s = sum (min (suc d) s) (λ e. f (s - suc e))

  -- the entry that leaves it after place s
  abbrev pub leaves : ℕ → ℕ
  leaves s = cond (ltb d s) (f (s - suc d)) 0

  pub recent-start : recent 0 ≡ 0
  unfolding sum
  recent-start = let n : min (suc d) 0 ≡ 0 = omega arith in ap (λ (n : ℕ). sum n (λ e. f (0 - suc e))) n

  -- at place s it takes the entry there, and one leaves it
  pub recent_whole : (s : ℕ) → recent (suc s) ≡ sum (suc (min d s)) (λ e. f (s - e))
  recent_whole s =
      let n : min (suc d) (suc s) ≡ suc (min d s) = omega arith in
      ap (λ (n : ℕ). sum n (λ e. f (suc s - suc e))) n ∙ sum_eq (suc (min d s)) (λ e l. let q : suc s - suc e ≡ s - e = omega arith in ap f q)

  recent-both : (s : ℕ) → recent (suc s) + leaves s ≡ recent s + f s
  unfolding sum
  recent-both s = ap (◌+ leaves s) (recent_whole s ∙ first) ∙ go (dec_le s d)
    where
      rest : ℕ → ℕ
      rest n = sum n (λ e. f (s - suc e))

      first : sum (suc (min d s)) (λ e. f (s - e)) ≡ f s + rest (min d s)
      first = let q : s - 0 ≡ s = omega arith in ap (λ (x : ℕ). f x + rest (min d s)) q

      go : Dec (s ≤ d) → f s + rest (min d s) + leaves s ≡ rest (min (suc d) s) + f s
      go (yes h) =
          let a : min d s ≡ s = omega arith in
          let b : min (suc d) s ≡ s = omega arith in
          let none : leaves s ≡ 0 = ap (λ (t : Bool). cond t (f (s - suc d)) 0) (le-ltb d s h) in
          omega (arith, ap rest a, ap rest b, none)
      go (no h) =
          let a : min d s ≡ d = omega arith in
          let b : min (suc d) s ≡ suc d = omega arith in
          let one : leaves s ≡ f (s - suc d) = ap (λ (t : Bool). cond t (f (s - suc d)) 0) (lt-ltb d s (omega arith)) in
          omega (arith, ap rest a, ap rest b, one, sum_last d (λ e. f (s - suc e)))

  pub recent_next : (s : ℕ) → recent s + f s - leaves s ≡ recent (suc s)
  recent_next s = omega (arith, recent-both s)

  pub leaves-le : (s : ℕ) → leaves s ≤ recent s + f s
  leaves-le s = omega (arith, recent-both s)

  -- it is no more than its entries allow
  pub recent-le : (c : ℕ) → ((i : ℕ) → f i ≤ c) → (s : ℕ) → recent s ≤ min (suc d) s * c
  recent-le c h s = sum-le (min (suc d) s) c (λ e. h (s - suc e))

-- ---- the counts, one variable after another

-- for each place the columns of the variables from i on
abbrev pub list_counts : List ℕ → ℕ → ℕ → List ℕ
list_counts ds n i = tabulate n (λ s. length (columns (drop i ds) s))

-- the last variables of a box are no more than the box
pub cells-drop-le : (ds : List ℕ) (i : ℕ) → cells (drop i ds) ≤ cells ds
unfolding cells
cells-drop-le ds zero = le_refl (cells ds)
cells-drop-le [] (suc i) = le_refl 1
cells-drop-le (d ∷ ds) (suc i) = le_trans (cells-drop-le ds i) (le-mul_of_pos_right (cells ds) (zero-lt-suc d))

-- no count is above the cells of the box
pub list_counts_le : (ds : List ℕ) (n i s : ℕ) → at (list_counts ds n i) s ≤ cells ds
list_counts_le ds n i s = go (dec_le n s)
  where
    go : Dec (n ≤ s) → at (list_counts ds n i) s ≤ cells ds
    go (yes h) =
        let past = le_trans (le_of_eq (length-tabulate n (λ s. length (columns (drop i ds) s)))) h in
        le_trans (le_of_eq (get_or-eq_default (list_counts ds n i) 0 past)) zero-le
    go (no h) =
        le_trans (le_of_eq (at-tabulate n (λ s. length (columns (drop i ds) s)) s (omega arith)))
        (le_trans (columns-le-cells (drop i ds) s) (cells-drop-le ds i))

sum_ones : (n : ℕ) → sum n (λ e. 1) ≡ n
unfolding sum
sum_ones zero = refl
sum_ones (suc n) = omega (arith, sum_ones n)

-- of the last variable
pub list_counts_one : (ds : List ℕ) (n i : ℕ) → length ds ≡ suc i → tabulate n (λ s. suc (min (at ds i) s)) ≡ list_counts ds n i
list_counts_one ds n i h =
    tabulate_cong n _ _
    (λ s l.
    sym (ap (λ (l : List ℕ). length (columns l s)) last ∙ count-cons (at ds i) [] s
    ∙ sum_eq (suc (min (at ds i) s)) (λ e k. count_none (s - e))
    ∙ sum_ones (suc (min (at ds i) s))))
  where
    last : drop i ds ≡ at ds i ∷ []
    last = drop-cons ds i 0 (le_of_eq (sym h)) ∙ ap (at ds i ∷◌) (drop_of_length-le ds (le_of_eq h))

-- a variable more
pub list_counts_next : (ds : List ℕ) (n i : ℕ) → i < length ds →
    tabulate n (λ s. sum (suc (min (at ds i) s)) (λ e. at (list_counts ds n (suc i)) (s - e))) ≡ list_counts ds n i
list_counts_next ds n i h =
    tabulate_cong n _ _
    (λ s l.
    sum_eq (suc (min (at ds i) s)) (λ e k. at-tabulate n (λ s. length (columns (drop (suc i) ds) s)) (s - e) (omega arith))
    ∙ sym (ap (λ (l : List ℕ). length (columns l s)) (drop-cons ds i 0 h) ∙ count-cons (at ds i) (drop (suc i) ds) s))
