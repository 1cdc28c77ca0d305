-- Rows of falling factorials: where they are zero, and each times its weight.
use Rattle.std.specs.Prelude.{◌≡◌, List, ℕ, ◌+◌, ◌*◌, ◌-◌, ◌%◌, ◌^◌, ◌≤◌, ◌<◌, min, bit_and, length, set}
use Rattle.std.proofs.Common.{sym, ap, subst, ◌∙◌, mul_comm, mul-zero, lt_of_not-le, arith}
use Rattle.std.proofs.Math.Nat.{zero-mod}
use Rattle.std.proofs.Math.Decide.{dec_le}
use Rattle.meaning.specs.Tables.{at, tabulate}
use Rattle.theory.specs.Tables.{at-tabulate, eq-tabulate, Filled, filled_step, filled_done}
use Rattle.theory.specs.FilledRows.{Rows}
use Rattle.theory.specs.MatrixTables.{flat, flat-entry}
use Rattle.theory.specs.Words.{masked_to}
use Rattle.theory.specs.FallingProducts.{zero_stays}
use Rattle.weighted_poly_fit.specs.Entries.{fallen, ZeroOn, Products}

-- ---- rows that are filled one after the other

-- the place of the next row
pub rows_at : {E : ℕ → ℕ → ℕ} {rows cols : ℕ} {m₀ m : List ℕ} {from i : ℕ} → Rows E rows cols m₀ m from i → Rows E rows cols m₀ m (i * cols) i
rows_at {E} {rows} {cols} {m₀} {m} {from} {i} r = subst (λ (n : ℕ). Rows E rows cols m₀ m n i) r.place r

-- ---- a row of falling factorials times its weight

-- the entries before entry e are multiplied
pub record Weighed (row₀ : List ℕ) (weight w mask : ℕ) (row : List ℕ) (e : ℕ) : Type 0 where
  pub narrow : w ≤ 64
  pub masks : mask ≡ 2 ^ min w 64 - 1
  pub filled : Filled (λ k. (weight * at row₀ k) % 2 ^ w) row₀ row e

module _ {row₀ : List ℕ} {weight w mask : ℕ} where
  module _ {row : List ℕ} {e : ℕ} (r : Weighed row₀ weight w mask row e) where
    pub weighed_next : e < length row → (v : ℕ) → v ≡ (at row e * weight) % 2 ^ 64 → Weighed row₀ weight w mask (set row e (bit_and v mask)) (e + 1)
    weighed_next h v q =
        record {
          narrow = r.narrow;
          masks = r.masks;
          filled =
              filled_step _ row₀ row e _ r.filled h
              (ap (λ (n : ℕ). bit_and n mask) q
              ∙ ap (bit_and ((at row e * weight) % 2 ^ 64)) r.masks
              ∙ masked_to (at row e * weight) w r.narrow
              ∙ ap (◌% 2 ^ w) (mul_comm (at row e) weight ∙ ap (weight *◌) (r.filled.above e (omega arith))));
        }

    -- at an entry of zero the rest is zero
    pub weighed_stop : ZeroOn row₀ → e < length row → at row e ≡ 0 → row ≡ tabulate (length row₀) (λ k. (weight * at row₀ k) % 2 ^ w)
    weighed_stop z h q =
        eq-tabulate row (length row₀) _ r.filled.same (λ k l. go k l (dec_le e k))
      where
        first : at row₀ e ≡ 0
        first = sym (r.filled.above e (omega arith)) ∙ q

        go : (k : ℕ) → k < length row₀ → Dec (e ≤ k) → at row k ≡ (weight * at row₀ k) % 2 ^ w
        go k l (yes p) =
            let none = z e k p l first in
            r.filled.above k p ∙ none
            ∙ sym (ap (λ (n : ℕ). (weight * n) % 2 ^ w) none ∙ ap (◌% 2 ^ w) (mul-zero weight) ∙ zero-mod (2 ^ w))
        go k l (no p) = r.filled.below k (lt_of_not-le p)

    pub weighed_done : length row ≤ e → row ≡ tabulate (length row₀) (λ k. (weight * at row₀ k) % 2 ^ w)
    weighed_done h = filled_done _ row₀ row e r.filled (omega (arith, r.filled.same))

-- ---- tables of falling factorials

-- a row of them is zero from its first zero on
pub fallen-zero-on : (w x : ℕ) (t : List ℕ) → ((c : ℕ) → c < length t → at t c ≡ fallen w x c) → ZeroOn t
fallen-zero-on w x t f a b h l z = f b l ∙ zero_stays (2 ^ w) x b h (sym (f a (omega arith)) ∙ z)

-- a table of falling factorials
pub products_hold : (w size : ℕ) {t : List ℕ} → t ≡ tabulate (length t) (flat size (fallen w)) → Products w size t
products_hold w size {t} e x n h l =
    ap (λ (u : List ℕ). at u (x * size + n)) e ∙ at-tabulate (length t) (flat size (fallen w)) (x * size + n) l ∙ flat-entry size (fallen w) x n h
