-- The passes of a move by a, row by row. In a block of s interleaved lines pass k goes over the rows k, k + 1, .., d - 1, the lowest first; row j gets a
-- factor times the row above it added, the same factor for all its s numbers: the difference of the new node a + j - k and the old node k, which is one more
-- from row to row. So a row is one loop without a case (`Added`), and a pass counts the factor up (`Rows`). Two passes at once (NodePairs) also add a multiple
-- of the row two above.
use Rattle.std.specs.Prelude.{◌≡◌, ℕ, suc, ◌+◌, ◌-◌, ◌*◌, ◌%◌, ◌<◌, ◌≤◌, ◌⊎◌, List, length, slice_set, refl}
use Rattle.std.proofs.Common.{sym, ap, ap₂, ◌∙◌, inl, inr, le_of_suc-le-suc, eq-or-lt_of_le, le_refl, lt_irrefl, lt_of_lt_of_le, mul-le-mul_right, mul_comm, add-one, arith, length-set, get_or-set_same, get_or-set_other}
use Rattle.std.proofs.Math.Nat.{lt_of_mul-lt-mul_left}
use Rattle.std.proofs.Math.Decide.{dec_le}
use Rattle.meaning.specs.Tables.{at}
use Rattle.meaning.specs.Differences.{minus}
use Rattle.theory.specs.Congruence.{Cong, cong_of_eq, cong_refl, cong_sym, cong_trans, cong_add, cong_add_right, cong_mul, cong_minus_of_add, mod-cong, minus-add}
use Rattle.theory.specs.MovedLines.{shift}
use Rattle.lines.specs.FlatTables.{lined}
use Rattle.lines.specs.InPlace.{Parted, lined-at}
use Rattle.lines.specs.NodeOrders.{from, from_step, from_line, Opened, Opening, open_start, open_done}

-- ---- one row

-- from place `from` up to place i each number of t₀ has got `near` times the number one stride above it and `far` times the one two strides above it added
pub record Added (m s from near far : ℕ) (t₀ t : List ℕ) (i : ℕ) : Type 0 where
  pub same : length t ≡ length t₀
  pub below : (j : ℕ) → j < from → at t j ≡ at t₀ j
  pub inside : (j : ℕ) → from ≤ j → j < i → at t j ≡ (at t₀ j + (near * at t₀ (j + s) + far * at t₀ (j + (s + s)))) % m
  pub above : (j : ℕ) → i ≤ j → at t j ≡ at t₀ j

-- no number yet
pub added_start : (m s from near far : ℕ) (t : List ℕ) → Added m s from near far t t from
added_start m s from near far t =
    record { same = refl; below = λ j p. refl; inside = λ j p q. absurd (lt_irrefl _ (lt_of_lt_of_le q p)); above = λ j p. refl }

-- one number more
pub added_step : {m s from near far : ℕ} {t₀ t : List ℕ} {i : ℕ} → Added m s from near far t₀ t i → from ≤ i → i < length t → (v : ℕ)
    → v ≡ (at t i + (near * at t (i + s) + far * at t (i + (s + s)))) % m → Added m s from near far t₀ (slice_set t i v) (i + 1)
added_step {m} {s} {from} {near} {far} {t₀} {t} {i} r h l v e =
    record {
      same = length-set t i v ∙ r.same;
      below = λ j p. get_or-set_other t i j v 0 (omega arith) ∙ r.below j p;
      inside = λ j p q. go j p (eq-or-lt_of_le (le_of_suc-le-suc (rw (add-one i) at q)));
      above = λ j p. get_or-set_other t i j v 0 (omega arith) ∙ r.above j (omega arith);
    }
  where
    go : (j : ℕ) → from ≤ j → (j ≡ i) ⊎ (j < i) → at (slice_set t i v) j ≡ (at t₀ j + (near * at t₀ (j + s) + far * at t₀ (j + (s + s)))) % m
    go j p (inl q) =
        rw q (get_or-set_same t i v 0 l ∙ e
        ∙ ap₂ (λ x y. (x + y) % m) (r.above i (le_refl i))
        (ap₂ (λ x y. near * x + far * y) (r.above (i + s) (omega arith)) (r.above (i + (s + s)) (omega arith))))
    go j p (inr q) = get_or-set_other t i j v 0 (omega arith) ∙ r.inside j p q

-- as before, with no number two strides above it
pub added_near : {m s from near : ℕ} {t₀ t : List ℕ} {i : ℕ} → Added m s from near 0 t₀ t i → from ≤ i → i < length t → (v : ℕ)
    → v ≡ (at t i + near * at t (i + s)) % m → Added m s from near 0 t₀ (slice_set t i v) (i + 1)
added_near {m} {s} {near} {t} {i} r h l v e = added_step r h l v (e ∙ ap (λ x. (at t i + x) % m) (omega arith))

-- numbers and factors modulo m
sum-mod : {m near far p q : ℕ} (x y z : ℕ) → Cong m near p → Cong m far q
    → (x + (p * y + q * z)) % m ≡ (x % m + (near * (y % m) + far * (z % m))) % m
sum-mod {m} x y z h l = (cong_sym (cong_add (mod-cong m x) (cong_add (cong_mul h (mod-cong m y)) (cong_mul l (mod-cong m z))))).same

-- row j, at place b, from the passes down to l to those down to k; where it has no second row above it, `far` is 0
pub row_parted : {m : ℕ} (δ : ℕ → ℕ → ℕ) {s d : ℕ} (f : ℕ → ℕ) {n b near far p q : ℕ} {t t' : List ℕ} (k l j : ℕ)
    → 0 < s → n ≡ s * suc d → b ≡ j * s → j < d → (far ≡ 0) ⊎ (suc j < d) → Cong m near p → Cong m far q
    → ((c : ℕ → ℕ) → from k d δ c j ≡ from l d δ c j + (p * from l d δ c (suc j) + q * from l d δ c (suc (suc j))))
    → Parted (lined (from_line m δ k) s d f) (lined (from_line m δ l) s d f) n b t → Added m s b near far t t' (b + s)
    → Parted (lined (from_line m δ k) s d f) (lined (from_line m δ l) s d f) n (b + s) t'
row_parted {m} δ {s} {d} f {n} {b} {near} {far} {t} {t'} k l j pos whole place low two nears fars law o r =
    record {
      same = r.same ∙ o.same;
      below = λ i p q. go i p q (dec_le b i);
      above = λ i p q. r.above i p ∙ o.above i (omega arith) q;
    }
  where
    fits : b + s + s ≤ n
    fits = omega (arith, mul-le-mul_right s low)

    -- row x of the line with offset e, before
    number : (e i x : ℕ) → e < s → i ≡ x * s + e → b ≤ i → i < n → at t i ≡ from l d δ (λ y. f (y * s + e)) x % m
    number e i x h same p q = o.above i p q ∙ ap (lined (from_line m δ l) s d f) same ∙ lined-at s pos (from_line m δ l) d f x h

    second : (e i : ℕ) → e < s → i ≡ j * s + e → (far ≡ 0) ⊎ (suc j < d)
        → far * at t (i + (s + s)) ≡ far * (from l d δ (λ y. f (y * s + e)) (suc (suc j)) % m)
    second e i h same (inl none) = rw none (omega arith)
    second e i h same (inr q) =
        ap (far *◌) (number e (i + (s + s)) (suc (suc j)) h (omega arith) (omega arith) (omega (arith, mul-le-mul_right s q)))

    go : (i : ℕ) → i < b + s → i < n → Dec (b ≤ i) → at t' i ≡ lined (from_line m δ k) s d f i
    go i p q (yes h) =
        let e : ℕ = i - b in
        let small : e < s = omega arith in
        let same : i ≡ j * s + e = omega arith in
        let old : ℕ → ℕ = from l d δ (λ y. f (y * s + e)) in
        r.inside i h p
        ∙ ap₂ (λ x y. (x + y) % m) (number e i j small same h q)
        (ap₂ ◌+◌ (ap (near *◌) (number e (i + s) (suc j) small (omega arith) (omega arith) (omega (arith, fits)))) (second e i small same two))
        ∙ sym (ap (◌% m) (law (λ y. f (y * s + e))) ∙ sum-mod (old j) (old (suc j)) (old (suc (suc j))) nears fars)
        ∙ sym (ap (lined (from_line m δ k) s d f) same ∙ lined-at s pos (from_line m δ k) d f j small)
    go i p q (no h) = r.below i (omega arith) ∙ o.below i (omega arith) q

-- ---- a pass

-- one number of pass k, by its row
pub from_row : (k d : ℕ) (δ : ℕ → ℕ → ℕ) (c : ℕ → ℕ) (row j : ℕ) → j ≡ k + row → j < d
    → from k d δ c j ≡ from (suc k) d δ c j + δ row k * from (suc k) d δ c (suc j)
from_row k d δ c row j e l =
    let back : j - k ≡ row = omega arith in
    from_step k d δ c j (omega arith) l ∙ ap (λ (x : ℕ). from (suc k) d δ c j + δ x k * from (suc k) d δ c (suc j)) back

-- a row of pass k
pub open_row : {m : ℕ} {δ : ℕ → ℕ → ℕ} {s d : ℕ} {f : ℕ → ℕ} {n k b : ℕ} {t t' : List ℕ} (row factor : ℕ)
    → 0 < s → n ≡ s * suc d → k + row < d → b ≡ (k + row) * s → Cong m factor (δ row k)
    → Opening m δ s d f n k b t → Added m s b factor 0 t t' (b + s) → Opening m δ s d f n k (b + s) t'
open_row {m} {δ} {s} {d} {f} {n} {k} row factor pos whole low place same o r =
    record {
      parted = row_parted δ f k (suc k) (k + row) pos whole place low (inl refl) same (cong_refl 0)
          (λ c. from_row k d δ c row (k + row) refl low ∙ omega arith) o.parted r;
    }

-- ---- the rows of a move

-- pass k of a move by a has come up to the place `from`, that of row k + `row`, whose factor is a + row - k
pub record Rows (m a s d k from factor : ℕ) : Type 0 where
  pub row : ℕ
  pub place : from ≡ (k + row) * s
  pub within : k + row ≤ d
  pub factors : Cong m (factor + k) (a + row)

module _ {m a s d k : ℕ} (positive : 0 < m) where
  -- the first row
  pub rows_start : {from factor : ℕ} → from ≡ s * k → factor ≡ minus m a k → k ≤ d → Rows m a s d k from factor
  rows_start {from} {factor} e h l =
      record {
        row = 0;
        place = omega arith;
        within = omega arith;
        factors = cong_trans (cong_of_eq m (ap (◌+ k) h)) (cong_trans (minus-add a k positive) (cong_of_eq m {a = a} {b = a + 0} (omega arith)));
      }

  module _ {from factor : ℕ} (r : Rows m a s d k from factor) where
    -- a row is left
    pub rows-low : from < s * d → k + r.row < d
    rows-low h = lt_of_mul-lt-mul_left s (rw (mul_comm s (k + r.row), ← r.place) h)

    -- its factor is the difference of the nodes
    pub rows-factor : Cong m factor (shift m a r.row k)
    rows-factor = cong_minus_of_add k positive r.factors

    -- the next row
    pub rows_step : {factor' : ℕ} → from < s * d → factor' ≡ (factor + 1) % m → Rows m a s d k (from + s) factor'
    rows_step {factor'} h e =
        let low : k + r.row < d = rows-low h in
        record {
          row = suc r.row;
          place = omega (arith, r.place);
          within = omega arith;
          factors =
              cong_trans (cong_add_right k (cong_trans (cong_of_eq m e) (mod-cong m (factor + 1))))
              (cong_trans (cong_of_eq m {a = factor + 1 + k} {b = factor + k + 1} (omega arith))
              (cong_trans (cong_add_right 1 r.factors) (cong_of_eq m {a = a + r.row + 1} {b = a + suc r.row} (omega arith))));
        }

    -- the row done
    pub rows_open : {f : ℕ → ℕ} {n : ℕ} {t t' : List ℕ} → 0 < s → n ≡ s * suc d → from < s * d
        → Opening m (shift m a) s d f n k from t → Added m s from factor 0 t t' (from + s) → Opening m (shift m a) s d f n k (from + s) t'
    rows_open pos whole h = open_row r.row factor pos whole (rows-low h) r.place rows-factor

-- the first pass, which has one row, row d - 1
pub top_opened : {m s d k from factor : ℕ} (a : ℕ) {f : ℕ → ℕ} {n : ℕ} {t t' : List ℕ} → 0 < m → 0 < s → n ≡ s * suc d → suc k ≡ d → from ≡ s * k
    → factor ≡ minus m a k → Opened m (shift m a) s d f n (suc k) t → Added m s from factor 0 t t' (from + s) → Opened m (shift m a) s d f n k t'
top_opened {s} {d} a positive pos whole top place e r added =
    let size = ap (s *◌) top in
    let row = rows_start {a = a} {d = d} positive place e (omega arith) in
    open_done pos whole (omega (arith, size))
    (rows_open positive row pos whole (omega (arith, size)) (rw place (open_start pos whole r)) added)
