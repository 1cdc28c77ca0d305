-- The loop over the cells of a row or a line. It speaks at once of all boxes ds and exponents hs of the other variables that fit what was lent: `Fits ds hs`
-- says so, for a row and for a line each in its way.
use Rattle.std.proofs.Common.{◌≡◌, ℕ, suc, ◌+◌, ◌-◌, ◌*◌, ◌/◌, ◌%◌, ◌^◌, ◌<◌, ◌≤◌, min, Bool, true, false, T, eqb, List, [], ◌∷◌, ◌++◌, length, set, sym, refl, ap, ◌∙◌, ap₂, zero-le, mod-eq_of_lt, arith, length-set}
use Rattle.meaning.specs.Tables.{at}
use Rattle.meaning.specs.Factorials.{factorial, twos}
use Rattle.meaning.specs.Inverses.{inverse}
use Rattle.meaning.specs.Boxes.{cells, digits}
use Rattle.meaning.specs.Values.{weight, odd_factor, bound}
use Rattle.theory.specs.LastVariable.{weight-append}
use Rattle.multivar_poly_recovery.proofs.CellFactors.{inverse_parts, inverse_more, divides-cut, coefficient-cut}
use Rattle.multivar_poly_recovery.specs.Tested.{Testing, testing_start, testing_step, testing_done, tested_fails}
use Rattle.std.specs.Prelude.{Option, Some, None}
use Rattle.box_rows.specs.Rows.{Laid, row_mask}
use Rattle.box_rows.specs.Lines.{LineBits}
use Rattle.multivar_poly_recovery.specs.Extracted.{cell_of, test, number, Extracted, Inverses, Inverted}

-- what a cell's answer says of its test and its coefficient
cell-passes : (b : Bool) (v c : ℕ) → cell_of b v ≡ Some c → T b × (c ≡ v)
cell-passes true v c e = (tt, cc)
cell-passes false v c e = let z : ◌≡◌ {A = ℕ} 0 1 = cc in omega arith

cell-refused : (b : Bool) (v : ℕ) → cell_of b v ≡ None → T b → ⊥
cell-refused true v e t = let z : ◌≡◌ {A = ℕ} 0 1 = cc in omega arith
cell-refused false v e t = t

-- ---- what was lent

-- the exponents hs leave `left` bits, and v is the inverse of their odd part
pub record Handed (w left v : ℕ) (hs : List ℕ) : Type 0 where
  pub bits : left ≡ w - weight hs
  pub unit : v ≡ inverse (odd_factor hs) 64

-- the box is that of the row
pub record OfRow (w left v : ℕ) (row ds hs : List ℕ) : Type 0 where
  pub one : ds ≡ row
  pub handed : Handed w left v hs

-- the box is a line
pub record OfLine (w left v : ℕ) (t₀ ds hs : List ℕ) : Type 0 where
  pub degree : ℕ
  pub one : ds ≡ degree ∷ []
  pub long : length t₀ ≡ suc degree
  pub handed : Handed w left v hs

-- the bits that are left and the inverse are those of cell i
pub record Right (w : ℕ) (ds hs : List ℕ) (i bits u : ℕ) : Type 0 where
  pub inside : i < cells ds
  pub bits_left : bits ≡ w - weight (digits ds i ++ hs)
  pub unit : u ≡ inverse (odd_factor (digits ds i ++ hs)) 64

pub right_row : (w left v : ℕ) (row masks units ds hs : List ℕ) (i bits u : ℕ) → OfRow w left v row ds hs → i < cells row → left ≤ 64
    → Laid row masks → Inverted row units → ((b : ℕ) → at masks i / 2 ^ (64 - left) ≡ 2 ^ b - 1 → b ≤ 64 → bits ≡ b) → u ≡ (v * at units i) % 2 ^ 64
    → Right w ds hs i bits u
unfolding bound
right_row w left v row masks units ds hs i bits u r inside small laid inverts counted e =
    let es = digits row i in
    let left_over : left - weight es ≡ w - weight (es ++ hs) = omega (arith, r.handed.bits, weight-append es hs) in
    rw r.one
    (record {
      inside = inside;
      bits_left = counted (left - weight es) (ap (◌/ 2 ^ (64 - left)) (laid i inside) ∙ row_mask left es small) (omega arith) ∙ left_over;
      unit = e ∙ ap₂ (λ (y z : ℕ). (y * z) % 2 ^ 64) r.handed.unit (inverts i inside) ∙ inverse_parts es hs;
    })

pub right_line : (w left v : ℕ) (inverses t₀ ds hs : List ℕ) (i bits u : ℕ) → OfLine w left v t₀ ds hs → i < length t₀ → length t₀ ≤ length inverses
    → Inverses inverses → LineBits left i bits → u ≡ (v * at inverses i) % 2 ^ 64 → Right w ds hs i bits u
unfolding cells digits weight
right_line w left v inverses t₀ ds hs i bits u r h room table b e =
    let d = r.degree in
    let small : i < suc d = rw r.long at h in
    let exponents : digits ds i ++ hs ≡ i ∷ hs = ap (λ (l : List ℕ). digits l i ++ hs) r.one ∙ ap (◌∷ hs) (mod-eq_of_lt small) in
    let left_over : left - twos (factorial i) ≡ w - weight (i ∷ hs) = omega (arith, r.handed.bits) in
    record {
      inside = rw r.one (omega arith);
      bits_left = b ∙ left_over ∙ ap (λ (l : List ℕ). w - weight l) (sym exponents);
      unit =
          e
          ∙ ap₂ (λ (y z : ℕ). (y * z) % 2 ^ 64) r.handed.unit (table i (omega arith))
          ∙ inverse_more i hs
          ∙ ap (λ (l : List ℕ). inverse (odd_factor l) 64) (sym exponents);
    }

pub line-cells : (d : ℕ) → suc d ≡ cells (d ∷ [])
unfolding cells
line-cells d = omega arith

-- ---- the loop

-- the numbers below i are done
pub record InRow (Fits : List ℕ → List ℕ → Type 0) (w : ℕ) (t₀ t : List ℕ) (i : ℕ) : Type 0 where
  pub same : length t ≡ length t₀
  pub within : i ≤ length t
  pub testing : (ds hs : List ℕ) → Fits ds hs → Testing (test w ds hs t₀) (number w ds hs t₀) t₀ t i

module _ (Fits : List ℕ → List ℕ → Type 0) (w : ℕ) (t₀ : List ℕ) where
  pub row_start : InRow Fits w t₀ t₀ 0
  row_start = record { same = refl; within = zero-le; testing = λ ds hs k. testing_start _ _ t₀ }

  module _ (t : List ℕ) (i bits u : ℕ) (r : InRow Fits w t₀ t i) (h : i < length t) (small : w ≤ 64)
      (right : (ds hs : List ℕ) → Fits ds hs → Right w ds hs i bits u) (x : Option ℕ)
      (came : (q : ℕ) → bits ≡ w - q
      → x ≡ cell_of (eqb (at t i % 2 ^ w % 2 ^ min q w) 0) ((at t i % 2 ^ w / 2 ^ q * u) % 2 ^ (w - q))) where
    module _ (ds hs : List ℕ) (fits : Fits ds hs) where
      before : Testing (test w ds hs t₀) (number w ds hs t₀) t₀ t i
      before = r.testing ds hs fits

      read : at t i ≡ at t₀ i
      read = before.filled.above i (omega arith)

      said : x ≡ cell_of (test w ds hs t₀ i) (number w ds hs t₀ i)
      said =
          let k = right ds hs fits in
          let es = digits ds i ++ hs in
          let q = weight es in
          came q k.bits_left
          ∙ ap (λ (y : ℕ). cell_of (eqb (y % 2 ^ w % 2 ^ min q w) 0) ((y % 2 ^ w / 2 ^ q * u) % 2 ^ (w - q))) read
          ∙ ap₂ cell_of (divides-cut w es q (at t₀ i % 2 ^ w) refl)
          (ap (λ (y : ℕ). (at t₀ i % 2 ^ w / 2 ^ q * y) % 2 ^ (w - q)) k.unit ∙ coefficient-cut w es q (at t₀ i % 2 ^ w) refl small)

    -- number i does not pass
    pub row-fails : x ≡ None → (t' ds hs : List ℕ) → Fits ds hs → Extracted w ds hs t₀ t' false
    row-fails e t' ds hs fits =
        tested_fails _ _ _ t' i (right ds hs fits).inside (cell-refused (test w ds hs t₀ i) (number w ds hs t₀ i) (sym (said ds hs fits) ∙ e))

    -- number i passes
    pub row_step : (c : ℕ) → x ≡ Some c → InRow Fits w t₀ (set t i c) (i + 1)
    row_step c e =
        record {
          same = length-set t i c ∙ r.same;
          within = simp length-set (omega arith);
          testing =
              λ ds hs fits.
              let both = cell-passes (test w ds hs t₀ i) (number w ds hs t₀ i) c (sym (said ds hs fits) ∙ e) in
              testing_step _ _ t₀ t i c (before ds hs fits) h both.1 both.0;
        }

  -- all numbers passed
  pub row_done : (t : List ℕ) (i : ℕ) → InRow Fits w t₀ t i → length t ≤ i → (ds hs : List ℕ) → Fits ds hs → length t₀ ≡ cells ds → Extracted w ds hs t₀ t true
  row_done t i r h ds hs fits l = testing_done _ _ t₀ t _ i (r.testing ds hs fits) (omega (arith, r.same))
