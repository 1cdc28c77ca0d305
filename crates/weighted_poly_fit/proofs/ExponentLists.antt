-- One exponent list: its sums, its coefficient and its cell number, one variable after the other.
use Rattle.std.specs.Prelude.{◌≡◌, refl, List, [], ◌∷◌, ℕ, zero, suc, ◌+◌, ◌*◌, ◌-◌, ◌%◌, ◌^◌, ◌≤◌, ◌<◌, min, bit_and, length, drop}
use Rattle.std.proofs.Common.{sym, ap, ap₂, subst, ◌∙◌, le_refl, lt_of_lt_of_le, add-one, arith, drop-cons}
use Rattle.std.proofs.Math.Nat.{mod-one}
use Rattle.std.proofs.Math.Seq.{drop-length}
use Rattle.std.specs.List.{sum_by}
use Rattle.std.proofs.lemmas.List.Sums.{sum_by-cons}
use Rattle.meaning.specs.Tables.{at}
use Rattle.meaning.specs.Factorials.{factorial, twos}
use Rattle.meaning.specs.Boxes.{cells, cell, digits, Within, none, next}
use Rattle.meaning.specs.Values.{weight, bound}
use Rattle.meaning.specs.Fit.{total}
use Rattle.theory.specs.Boxes.{cell-lt, digits-within, length-within}
use Rattle.theory.specs.Words.{masked_low}
use Rattle.theory.specs.Twos.{legendre}

-- ---- sums

-- the sums of the library
pub weight-sum : (es : List ℕ) → weight es ≡ sum_by (λ e. twos (factorial e)) es
unfolding weight
weight-sum [] = refl
weight-sum (e ∷ es) = ap (twos (factorial e) +◌) (weight-sum es) ∙ sym (sum_by-cons (λ e. twos (factorial e)) e es)

-- each exponent is a byte
pub twos_few : (es : List ℕ) → ((i : ℕ) → at es i ≤ 255) → sum_by (λ e. twos (factorial e)) es ≤ length es * 255
twos_few [] h = omega arith
twos_few (e ∷ es) h =
    let byte : e ≤ 255 = h 0 in
    omega (arith, sum_by-cons (λ e. twos (factorial e)) e es, legendre e, twos_few es (λ i. h (suc i)))

pub total-sum : (es : List ℕ) → total es ≡ sum_by (λ e. e) es
unfolding total
total-sum [] = refl
total-sum (e ∷ es) = ap (e +◌) (total-sum es) ∙ sym (sum_by-cons (λ e. e) e es)

-- ---- the coefficient

-- no bit is left where the twos are as many as the width
pub reduced_none : (v w : ℕ) (es : List ℕ) (t : ℕ) → t ≡ weight es → w ≤ t → 0 ≡ v % bound w es
unfolding bound
reduced_none v w es t e h =
    let z : w - weight es ≡ 0 = omega arith in
    sym (ap (λ (n : ℕ). v % 2 ^ n) z ∙ mod-one v)

-- else the low bits are left
pub reduced_some : (v w : ℕ) (es : List ℕ) (t m : ℕ) → t ≡ weight es → w ≤ 64 → m ≡ 2 ^ min (w - t) 64 - 1 → bit_and v m ≡ v % bound w es
unfolding bound
reduced_some v w es t m e n f = ap (bit_and v) f ∙ masked_low v (w - t) (omega arith) ∙ ap (λ (k : ℕ). v % 2 ^ (w - k)) e

-- ---- the cell number

-- exponents that are those of a cell of the box
pub within_cell : {ds es : List ℕ} → digits ds (cell ds es) ≡ es → Within ds es
within_cell {ds} {es} e = subst (Within ds) e (digits-within ds (cell ds es))

within-drop : {ds es : List ℕ} → Within ds es → (i : ℕ) → Within (drop i ds) (drop i es)
within-drop w zero = w
within-drop none (suc i) = none
within-drop (next l w) (suc i) = within-drop w i

cells-drop : (ds : List ℕ) (i : ℕ) → cells (drop i ds) ≤ cells ds
unfolding cells
cells-drop ds zero = le_refl (cells ds)
cells-drop [] (suc i) = le_refl 1
cells-drop (d ∷ ds) (suc i) =
    let e : cells ds * suc d ≡ cells ds + cells ds * d = omega arith in
    omega (arith, e, cells-drop ds i)

-- the cell of the exponents from variable i on
pub record CellFrom (ds es : List ℕ) (number i : ℕ) : Type 0 where
  pub within : Within ds es
  pub few : i ≤ length ds
  pub so_far : number ≡ cell (drop i ds) (drop i es)

module _ {ds es : List ℕ} where
  pub cell-start : Within ds es → CellFrom ds es 0 (length ds)
  unfolding cell
  cell-start w =
      record {
        within = w;
        few = le_refl (length ds);
        so_far = sym (ap (λ (l : List ℕ). cell l (drop (length ds) es)) (drop-length ds));
      }

  module _ {number i : ℕ} (r : CellFrom ds es number i) (h : 0 < i) where
    pub degree_there : i - 1 < length ds
    degree_there = omega (arith, r.few)

    pub exponent_there : i - 1 < length es
    exponent_there = omega (arith, r.few, length-within r.within)

    pub cell_next : CellFrom ds es (number * (at ds (i - 1) + 1) + at es (i - 1)) (i - 1)
    unfolding cell
    cell_next =
        let e : suc (i - 1) ≡ i = omega arith in
        record {
          within = r.within;
          few = omega (arith, r.few);
          so_far =
              ap₂ (λ (n m : ℕ). n * m + at es (i - 1))
              (r.so_far ∙ ap (λ (n : ℕ). cell (drop n ds) (drop n es)) (sym e)) (add-one (at ds (i - 1)))
              ∙ sym (ap₂ cell (drop-cons ds (i - 1) 0 degree_there) (drop-cons es (i - 1) 0 exponent_there));
        }

    -- it is a cell of the box
    pub cell_small : number * (at ds (i - 1) + 1) + at es (i - 1) < cells ds
    cell_small =
        rw cell_next.so_far (lt_of_lt_of_le (cell-lt (within-drop r.within (i - 1))) (cells-drop ds (i - 1)))

  pub cell_done : {number i : ℕ} → CellFrom ds es number i → i ≤ 0 → number ≡ cell ds es
  cell_done {number} {i} r h =
      let e : i ≡ 0 = omega arith in
      r.so_far ∙ ap (λ (n : ℕ). cell (drop n ds) (drop n es)) e
