-- The box of the answer, column by column: the cells of the columns done have their coefficients, all others 0.
use Rattle.std.specs.Prelude.{◌≡◌, refl, Bool, true, false, cond, List, [], ℕ, suc, ◌+◌, ◌*◌, ◌-◌, ◌%◌, ◌≤◌, ◌<◌, max, leb, eqb, length, take, drop, set, get_or}
use Rattle.std.proofs.Common.{sym, ap, ap₂, ◌∙◌, zero-le, mul-le-mul_right, not-suc-le-zero, add-one, arith, length-set, get_or-set_same, get_or-set_other}
use Rattle.std.proofs.Math.Decide.{dec_le}
use borrow.Author.Tests.{leb-true, leb-false, eqb-true, eqb-false}
use Rattle.meaning.specs.Tables.{at, tabulate}
use Rattle.meaning.specs.Boxes.{cells, cell, digits, Within}
use Rattle.meaning.specs.Values.{bound}
use Rattle.meaning.specs.Leaves.{largest}
use Rattle.meaning.specs.Elimination.{joined}
use Rattle.meaning.specs.Fit.{total, columns, value_of, fit_box_of, degree_used_of}
use Rattle.theory.specs.Tables.{length-tabulate, eq-tabulate, at-tabulate-zero}
use Rattle.theory.specs.Boxes.{cell-lt, cell-digits, digits-cell, digits-within, length-within}
use Rattle.theory.specs.Columns.{in-columns-iff}
use Rattle.theory.specs.Largest.{largest_last}
use Rattle.theory.specs.FitBoxes.{fit_box_of_column, fit_box_of-entry, fit_box_of_other, degree_used_of-columns, column_within, column_bounded, place_of}
use Rattle.weighted_poly_fit.proofs.Listed.{length-columns-joined}
use Rattle.weighted_poly_fit.proofs.FitMatrix.{part-joined}

-- the exponents of column c, and the degree that it has in the answer
abbrev pub list_of : List ℕ → ℕ → ℕ → List ℕ
list_of ds most c = get_or (columns ds most) c []

abbrev pub degree_at : ℕ → List ℕ → ℕ → (ℕ → ℕ) → ℕ → ℕ
degree_at w ds most x c = cond (eqb (x c % bound w (list_of ds most c)) 0) 0 (total (list_of ds most c))

-- what is lent
pub record Lent (w : ℕ) (ds : List ℕ) (most : ℕ) (values exponents : List ℕ) : Type 0 where
  pub small : cells ds ≤ 65536
  pub narrow : w ≤ 64
  pub short : length ds ≤ 20
  pub listed : exponents ≡ joined (columns ds most)
  pub long : length values ≡ length (columns ds most)

-- the columns before column c are done
pub record Answered (w : ℕ) (ds : List ℕ) (most : ℕ) (values exponents out : List ℕ) (highest c : ℕ) : Type 0 where
  pub lent : Lent w ds most values exponents
  pub whole : length out ≡ cells ds
  pub few : c ≤ length values
  pub stored : (i : ℕ) → i < c
      → at out (cell ds (list_of ds most i)) ≡ at (fit_box_of w ds (columns ds most) (at values)) (cell ds (list_of ds most i))
  pub others : (n : ℕ) → ((i : ℕ) → i < c → cell ds (list_of ds most i) ≡ n → ⊥) → at out n ≡ 0
  pub high : highest ≡ largest c (degree_at w ds most (at values))

module _ {w : ℕ} {ds : List ℕ} {most : ℕ} {values exponents : List ℕ} where
  pub answered_start : {out : List ℕ} (n : ℕ) → Lent w ds most values exponents → out ≡ tabulate n (λ i. 0) → n ≡ cells ds
      → Answered w ds most values exponents out 0 0
  unfolding largest
  answered_start {out} n g e l =
      record {
        lent = g;
        whole = ap length e ∙ length-tabulate n _ ∙ l;
        few = zero-le;
        stored = λ i h. absurd (not-suc-le-zero h);
        others = λ i h. ap (λ (t : List ℕ). at t i) e ∙ at-tabulate-zero n i;
        high = refl;
      }

  module _ {out : List ℕ} {highest c : ℕ} (r : Answered w ds most values exponents out highest c) (h : c < length values) where
    column_is : c < length (columns ds most)
    column_is = omega (arith, r.lent.long)

    -- the exponents of the column
    pub column_end : c * length ds + length ds ≤ length exponents
    column_end =
        let l : suc c * length ds ≤ length (columns ds most) * length ds = mul-le-mul_right (length ds) column_is in
        omega (arith, l, length-columns-joined ds most, ap length r.lent.listed)

    pub column_part : take (c * length ds + length ds - c * length ds) (drop (c * length ds) exponents) ≡ list_of ds most c
    column_part =
        let e : c * length ds + length ds - c * length ds ≡ length ds = omega arith in
        ap (λ (t : List ℕ). take (c * length ds + length ds - c * length ds) (drop (c * length ds) t)) r.lent.listed
        ∙ ap (λ (n : ℕ). take n (drop (c * length ds) (joined (columns ds most)))) e
        ∙ part-joined (length ds) (columns ds most) (λ i l. length-within (column_within w ds most (at values) i l)) c column_is

    column_there : Within ds (list_of ds most c)
    column_there = column_within w ds most (at values) c column_is

    pub part-within : Within ds (take (c * length ds + length ds - c * length ds) (drop (c * length ds) exponents))
    part-within = rw column_part column_there

    pub answered_next : (es out' : List ℕ) (d s : ℕ) → es ≡ list_of ds most c
        → out' ≡ set out (cell ds es) (at values c % bound w es)
        → d ≡ cond (eqb (at values c % bound w es) 0) 0 (total es)
        → s ≡ max highest d
        → Answered w ds most values exponents out' s (c + 1)
    answered_next es out' d s q e f g =
        record {
          lent = r.lent;
          whole = ap length e' ∙ length-set out _ _ ∙ r.whole;
          few = omega arith;
          stored = λ i l. ap (λ (t : List ℕ). at t (cell ds (list_of ds most i))) e' ∙ kept i l (eqb (cell ds (list_of ds most i)) k) refl;
          others = λ n l.
              ap (λ (t : List ℕ). at t n) e'
              ∙ get_or-set_other out k n v 0 (λ p. l c (omega arith) (sym p))
              ∙ r.others n (λ i m. l i (omega arith));
          high =
              g
              ∙ ap₂ max r.high (f ∙ ap (λ (l : List ℕ). cond (eqb (at values c % bound w l) 0) 0 (total l)) q)
              ∙ sym (largest_last c (degree_at w ds most (at values)))
              ∙ ap (λ (n : ℕ). largest n (degree_at w ds most (at values))) (sym (add-one c));
        }
      where
        k : ℕ
        k = cell ds (list_of ds most c)

        v : ℕ
        v = at values c % bound w (list_of ds most c)

        e' : out' ≡ set out k v
        e' = e ∙ ap (λ (l : List ℕ). set out (cell ds l) (at values c % bound w l)) q

        -- two columns of one cell would have one coefficient
        kept : (i : ℕ) → i < c + 1 → (b : Bool) → eqb (cell ds (list_of ds most i)) k ≡ b
            → at (set out k v) (cell ds (list_of ds most i)) ≡ at (fit_box_of w ds (columns ds most) (at values)) (cell ds (list_of ds most i))
        kept i l true p =
            let z : cell ds (list_of ds most i) ≡ k = eqb-true _ _ p in
            ap (at (set out k v)) z
            ∙ get_or-set_same out k v 0 (rw r.whole (cell-lt column_there))
            ∙ sym (fit_box_of_column w ds most (at values) c column_is)
            ∙ ap (at (fit_box_of w ds (columns ds most) (at values))) (sym z)
        kept i l false p = get_or-set_other out k _ v 0 (eqb-false _ k p) ∙ r.stored i (earlier (dec_le c i))
          where
            earlier : Dec (c ≤ i) → i < c
            earlier (yes m) =
                let z : i ≡ c = omega arith in
                absurd (eqb-false _ k p (ap (λ (n : ℕ). cell ds (list_of ds most n)) z))
            earlier (no m) = omega arith

  pub answered_box : {out : List ℕ} {highest c : ℕ} → Answered w ds most values exponents out highest c → length values ≤ c
      → out ≡ fit_box_of w ds (columns ds most) (at values)
  unfolding fit_box_of
  answered_box {out} {highest} {c} r h =
      eq-tabulate out (cells ds) (λ n. value_of (columns ds most) (at values) (digits ds n) % bound w (digits ds n)) r.whole
      (λ n l. one n l (leb (total (digits ds n)) most) refl ∙ fit_box_of-entry w ds most (at values) n l)
    where
      one : (n : ℕ) → n < cells ds → (b : Bool) → leb (total (digits ds n)) most ≡ b → at out n ≡ at (fit_box_of w ds (columns ds most) (at values)) n
      one n l true e =
          let p = place_of ((in-columns-iff ds most (digits ds n)).1 (digits-within ds n, leb-true _ most e)) in
          let e' : cell ds (list_of ds most p.place) ≡ n = ap (cell ds) p.there_is ∙ cell-digits ds n l in
          ap (at out) (sym e')
          ∙ r.stored p.place (omega (arith, p.below, r.lent.long))
          ∙ ap (at (fit_box_of w ds (columns ds most) (at values))) e'
      one n l false e =
          r.others n
          (λ i m q.
          let b : i < length (columns ds most) = omega (arith, r.few, r.lent.long) in
          let d : digits ds n ≡ list_of ds most i = ap (digits ds) (sym q) ∙ digits-cell (column_within w ds most (at values) i b) in
          omega (arith, ap total d, column_bounded w ds most (at values) i b, leb-false _ most e))
          ∙ sym (fit_box_of_other w ds most (at values) n l (leb-false _ most e))

  pub answered_degree : {out : List ℕ} {highest c : ℕ} → Answered w ds most values exponents out highest c → length values ≤ c
      → highest ≡ degree_used_of ds (fit_box_of w ds (columns ds most) (at values))
  answered_degree {out} {highest} {c} r h =
      let e : c ≡ length (columns ds most) = omega (arith, r.few, r.lent.long) in
      r.high ∙ ap (λ (n : ℕ). largest n (degree_at w ds most (at values))) e ∙ sym (degree_used_of-columns w ds most (at values))
