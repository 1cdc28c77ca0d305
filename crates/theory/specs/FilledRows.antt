-- A flat table that is filled row by row.
use Rattle.std.specs.Prelude.{◌≡◌, List, ℕ, suc, ◌+◌, ◌*◌, ◌-◌, ◌≤◌, ◌<◌, length}
use Rattle.std.proofs.Common.{sym, ap, ◌∙◌, zero-le, zero-mul, mul-le-mul_right, le_of_eq, arith}
use Rattle.std.proofs.Math.Arith.{digits_lt}
use Rattle.meaning.specs.Tables.{at, tabulate}
use Rattle.theory.specs.Tables.{length-tabulate, at-tabulate, tabulate_cong, Filled, filled_start, filled_done}
use Rattle.theory.specs.Parts.{part, put, length_part, at_part, filled_part}
use Rattle.theory.specs.MatrixTables.{flat, flat-entry, places}

-- the rows before row i have the entries E, of a table m₀ with so many rows and columns
pub record Rows (E : ℕ → ℕ → ℕ) (rows cols : ℕ) (m₀ m : List ℕ) (from i : ℕ) : Type 0 where
  pub whole : length m₀ ≡ rows * cols
  pub few : i ≤ rows
  pub place : from ≡ i * cols
  pub filled : Filled (flat cols E) m₀ m from

module _ {E : ℕ → ℕ → ℕ} {rows cols : ℕ} {m₀ : List ℕ} where
  pub rows_start : length m₀ ≡ rows * cols → Rows E rows cols m₀ m₀ 0 0
  rows_start e = record { whole = e; few = zero-le; place = sym (zero-mul cols); filled = filled_start _ m₀ }

  module _ {m : List ℕ} {from i : ℕ} (r : Rows E rows cols m₀ m from i) (h : i < rows) where
    pub row_end : from + cols ≤ length m
    row_end =
        let l : suc i * cols ≤ rows * cols = mul-le-mul_right cols h in
        omega (arith, l, r.place, r.whole, r.filled.same)

    pub row_length : length (part from (from + cols) m) ≡ cols
    row_length =
        let e : from + cols - from ≡ cols = omega arith in
        length_part from (from + cols) m row_end ∙ e

    -- the row is as it was
    pub row_at : (c : ℕ) → c < cols → at (part from (from + cols) m) c ≡ at m₀ (i * cols + c)
    row_at c l =
        at_part from (from + cols) m row_end c (omega arith)
        ∙ r.filled.above (from + c) (omega arith)
        ∙ ap (λ (n : ℕ). at m₀ (n + c)) r.place

    pub rows_next : (ys : List ℕ) → length ys ≡ cols → ((c : ℕ) → c < cols → at ys c ≡ E i c)
        → Rows E rows cols m₀ (put from (from + cols) m ys) (from + cols) (i + 1)
    rows_next ys long f =
        record {
          whole = r.whole;
          few = omega arith;
          place = omega (arith, r.place);
          filled = filled_part _ m₀ m from (from + cols) ys r.filled (omega arith) row_end (long ∙ omega arith) one;
        }
      where
        one : (c : ℕ) → c < from + cols - from → at ys c ≡ flat cols E (from + c)
        one c l = f c (omega arith) ∙ sym (ap (λ (n : ℕ). flat cols E (n + c)) r.place ∙ flat-entry cols E i c (omega arith))

    -- a row given by a rule
    pub rows_rule : (ys : List ℕ) (g : ℕ → ℕ) → ys ≡ tabulate (length (part from (from + cols) m)) g → ((c : ℕ) → c < cols → g c ≡ E i c)
        → Rows E rows cols m₀ (put from (from + cols) m ys) (from + cols) (i + 1)
    rows_rule ys g e f =
        rows_next ys (ap length e ∙ length-tabulate _ g ∙ row_length)
        (λ c l. ap (λ (t : List ℕ). at t c) e ∙ at-tabulate _ g c (omega (arith, row_length)) ∙ f c l)

  pub rows_done : {m : List ℕ} {from i : ℕ} → Rows E rows cols m₀ m from i → rows ≤ i → m ≡ tabulate (length m₀) (flat cols E)
  rows_done {m} {from} {i} r h =
      let same : rows ≡ i = omega (arith, r.few) in
      filled_done _ m₀ m from r.filled (le_of_eq (r.whole ∙ ap (◌* cols) same ∙ sym r.place))

-- an entry of a flat table
pub at-flat : (E : ℕ → ℕ → ℕ) (rows cols : ℕ) {t : List ℕ} → t ≡ tabulate (length t) (flat cols E) → length t ≡ rows * cols
    → (i c : ℕ) → i < rows → c < cols → at t (i * cols + c) ≡ E i c
at-flat E rows cols {t} e long i c l h =
    ap (λ (u : List ℕ). at u (i * cols + c)) e
    ∙ at-tabulate (length t) (flat cols E) (i * cols + c) (rw long (digits_lt l h))
    ∙ flat-entry cols E i c h

-- flat tables with the same entries
pub flat-eq : (E F : ℕ → ℕ → ℕ) (rows cols n : ℕ) → n ≡ rows * cols → ((i c : ℕ) → i < rows → c < cols → E i c ≡ F i c)
    → tabulate n (flat cols E) ≡ tabulate n (flat cols F)
flat-eq E F rows cols n e h =
    tabulate_cong n (flat cols E) (flat cols F)
    (λ k l. places rows cols (λ p. flat cols E p ≡ flat cols F p) (λ i c p q. flat-entry cols E i c q ∙ h i c p q ∙ sym (flat-entry cols F i c q)) k (rw e at l))
