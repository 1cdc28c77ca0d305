-- The loop over the sub-boxes of the last variable: the list of degrees is that of the other variables and then d. As for a line, all exponents hs of
-- the variables behind are spoken of at once; sub-box e is asked at e ∷ hs.
use Rattle.std.proofs.Common.{◌≡◌, ℕ, suc, ◌+◌, ◌-◌, ◌*◌, ◌/◌, ◌%◌, ◌^◌, ◌<◌, ◌≤◌, Bool, true, false, List, [], ◌∷◌, ◌++◌, length, take, sym, refl, ap, ◌∙◌, subst, ap₂, zero-le, mul-le-mul_right, zero-lt-suc, add-one, arith, length-take-le, take-suc}
use Rattle.std.proofs.Math.Nat.{mul-div_cancel_left}
use Rattle.std.proofs.Math.Seq.{take-length}
use Rattle.meaning.specs.Tables.{at}
use Rattle.meaning.specs.Factorials.{factorial, twos}
use Rattle.meaning.specs.Inverses.{inverse}
use Rattle.meaning.specs.Boxes.{cells, digits}
use Rattle.meaning.specs.Values.{weight, odd_factor}
use Rattle.meaning.specs.Recovery.{divides, coefficient}
use Rattle.theory.specs.Parts.{part, put, at_part, length_part, length-put}
use Rattle.box_rows.specs.Lines.{LineBits, line_full, line_bits}
use Rattle.multivar_poly_recovery.proofs.CellFactors.{cells_last, digits_last, inverse_more}
use Rattle.multivar_poly_recovery.specs.Tested.{Tested, Testing, tested_cong, testing_start, testing_part, testing_done, tested_part_fails}
use Rattle.multivar_poly_recovery.specs.Extracted.{test, number, Promise, Inverses}

-- ---- the last of the degrees

module _ (ds : List ℕ) (last : ℕ) (e : last ≡ length ds - 1) (some : 0 < length ds) where
  pub split_last : ds ≡ take last ds ++ (at ds last ∷ [])
  split_last =
      let all : suc last ≡ length ds = omega arith in
      sym (take-length ds) ∙ ap (λ (n : ℕ). take n ds) (sym all) ∙ take-suc ds last 0 (omega arith)

  pub cells_split : cells ds ≡ suc (at ds last) * cells (take last ds)
  cells_split = ap cells split_last ∙ cells_last (take last ds) (at ds last)

  pub size_eq : (n : ℕ) → n ≡ cells ds → n / (at ds last + 1) ≡ cells (take last ds)
  size_eq n h =
      ap₂ ◌/◌ (h ∙ cells_split) (add-one (at ds last)) ∙ mul-div_cancel_left (cells (take last ds)) (zero-lt-suc (at ds last))

  pub length_rest : length (take last ds) ≡ last
  length_rest = length-take-le last ds (omega arith)

-- how a table of the box of ds is made of the sub-boxes of its last variable
pub record Layout (ds t₀ : List ℕ) (last size : ℕ) : Type 0 where
  pub split : ds ≡ take last ds ++ (at ds last ∷ [])
  pub shorter : length (take last ds) ≡ last
  pub whole : length t₀ ≡ suc (at ds last) * cells (take last ds)
  pub sized : size ≡ cells (take last ds)

pub layout : (ds t₀ : List ℕ) → 0 < length ds → length t₀ ≡ cells ds → Layout ds t₀ (length ds - 1) (length t₀ / (at ds (length ds - 1) + 1))
layout ds t₀ some fits =
    record {
      split = split_last ds _ refl some;
      shorter = length_rest ds _ refl some;
      whole = fits ∙ cells_split ds _ refl some;
      sized = size_eq ds _ refl some (length t₀) fits;
    }

-- one exponent more
next_inverse : (inverses : List ℕ) → Inverses inverses → (v e : ℕ) (hs : List ℕ) → e < length inverses → v ≡ inverse (odd_factor hs) 64
    → (v * at inverses e) % 2 ^ 64 ≡ inverse (odd_factor (e ∷ hs)) 64
next_inverse inverses table v e hs h k =
    ap₂ (λ (a b : ℕ). (a * b) % 2 ^ 64) k (table e h) ∙ inverse_more e hs

-- one exponent more
one-over : (w left bits e : ℕ) (hs : List ℕ) → left ≡ w - weight hs → bits ≡ left - twos (factorial e) → bits ≡ w - weight (e ∷ hs)
unfolding weight
one-over w left bits e hs a b = omega arith

-- ---- the sub-boxes

-- what extraction promises for the list of degrees as it was lent
pub promise_split : (left v w : ℕ) (ds es t₀ t : List ℕ) (r : Bool) → ds ≡ es → Promise left v w es t₀ t r → Promise left v w ds t₀ t r
promise_split left v w ds es t₀ t r e p = subst (λ (l : List ℕ). Promise left v w l t₀ t r) (sym e) p

-- the sub-boxes before sub-box e are done
pub record SubBoxes (left v w : ℕ) (rest : List ℕ) (d : ℕ) (t₀ t : List ℕ) (bits from e : ℕ) : Type 0 where
  pub same : length t ≡ length t₀
  pub few : e ≤ suc d
  pub place : from ≡ e * cells rest
  pub over : LineBits left e bits
  pub testing : (hs : List ℕ) → left ≡ w - weight hs → v ≡ inverse (odd_factor hs) 64
      → Testing (test w (rest ++ (d ∷ [])) hs t₀) (number w (rest ++ (d ∷ [])) hs t₀) t₀ t from

module _ (left v w : ℕ) (rest : List ℕ) (d : ℕ) (t₀ : List ℕ) where
  pub sub_boxes_start : SubBoxes left v w rest d t₀ t₀ left 0 0
  sub_boxes_start =
      record {
        same = refl;
        few = zero-le;
        place = omega arith;
        over = line_full left;
        testing = λ hs a b. testing_start _ _ t₀;
      }

  module _ (t : List ℕ) (bits from e : ℕ) (r : SubBoxes left v w rest d t₀ t bits from e) (h : e < suc d)
      (whole : length t₀ ≡ suc d * cells rest) (size : ℕ) (sized : size ≡ cells rest) where
    -- the next sub-box fits
    pub sub_box_fits : from + size ≤ length t
    sub_box_fits =
        let le : suc e * cells rest ≤ suc d * cells rest = mul-le-mul_right (cells rest) h in
        omega (arith, le, r.place, r.same, sized)

    pub sub_box_length : length (part from (from + size) t) ≡ cells rest
    sub_box_length =
        let k : from + size - from ≡ size = omega arith in
        length_part from (from + size) t sub_box_fits ∙ k ∙ sized

    module _ (inverses : List ℕ) (table : Inverses inverses) (below : e < length inverses) (u : ℕ) (times : u ≡ (v * at inverses e) % 2 ^ 64)
        (ys : List ℕ) (s : Bool) (came : Promise bits u w rest (part from (from + size) t) ys s) where
      -- what came back, by the numbers of the whole box
      inside : (hs : List ℕ) → left ≡ w - weight hs → v ≡ inverse (odd_factor hs) 64
          → Tested (λ i. test w (rest ++ (d ∷ [])) hs t₀ (from + i)) (λ i. number w (rest ++ (d ∷ [])) hs t₀ (from + i)) (cells rest) ys s
      inside hs a b =
          tested_cong (λ i l. ap₂ (λ (es : List ℕ) (x : ℕ). divides w es (x % 2 ^ w)) (exponents i l) (read i l))
          (λ i l. ap₂ (λ (es : List ℕ) (x : ℕ). coefficient w es (x % 2 ^ w)) (exponents i l) (read i l))
          (came (e ∷ hs) weighs (times ∙ next_inverse inverses table v e hs below b))
        where
          weighs : bits ≡ w - weight (e ∷ hs)
          weighs = one-over w left bits e hs a r.over

          exponents : (i : ℕ) → i < cells rest → digits rest i ++ (e ∷ hs) ≡ digits (rest ++ (d ∷ [])) (from + i) ++ hs
          exponents i l =
              sym (ap (λ (n : ℕ). digits (rest ++ (d ∷ [])) (n + i) ++ hs) r.place ∙ digits_last rest d e i hs (omega arith) l)

          read : (i : ℕ) → i < cells rest → at (part from (from + size) t) i ≡ at t₀ (from + i)
          read i l = at_part from (from + size) t sub_box_fits i (omega arith) ∙ (r.testing hs a b).filled.above (from + i) (omega arith)

      -- a number in it does not pass
      pub sub_box_fails : (t' : List ℕ) → s ≡ false → Promise left v w (rest ++ (d ∷ [])) t₀ t' false
      sub_box_fails t' z hs a b =
          tested_part_fails _ _ _ t' ys from (cells rest) _
          (rw (cells_last rest d) (omega (arith, sub_box_fits, r.same)))
          (rw z at (inside hs a b))

      -- all pass
      pub sub_boxes_step : (n : ℕ) → length ys ≡ length (part from (from + size) t) → s ≡ true → n ≡ bits - twos (e + 1)
          → SubBoxes left v w rest d t₀ (put from (from + size) t ys) n (from + size) (e + 1)
      sub_boxes_step n long z g =
          record {
            same = length-put from (from + size) t sub_box_fits (omega arith) ys (long ∙ sub_box_length ∙ sym span) ∙ r.same;
            few = omega arith;
            place = omega (arith, r.place, sized);
            over = line_bits left e bits n r.over g;
            testing =
                λ hs a b.
                testing_part _ _ t₀ t from (from + size) ys (r.testing hs a b) (omega arith) sub_box_fits (long ∙ sub_box_length ∙ sym span)
                (rw span (rw z at (inside hs a b)));
          }
        where
          span : from + size - from ≡ cells rest
          span = omega (arith, sized)

  -- all sub-boxes are done
  pub sub_boxes_done : (t : List ℕ) (bits from e : ℕ) → SubBoxes left v w rest d t₀ t bits from e → suc d ≤ e → Promise left v w (rest ++ (d ∷ [])) t₀ t true
  sub_boxes_done t bits from e r h hs a b =
      testing_done _ _ t₀ t _ from (r.testing hs a b)
      (rw (cells_last rest d) (omega (arith, r.place, mul-le-mul_right (cells rest) h)))
