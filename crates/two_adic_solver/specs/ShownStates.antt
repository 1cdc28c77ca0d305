-- Tables that show a state of the elimination: a flat matrix and a right side with the state's entries, row for row.
use Rattle.std.specs.Prelude.{◌≡◌, ℕ, ◌+◌, ◌*◌, ◌%◌, ◌^◌, ◌<◌, Bool, cond, List, length, refl}
use Rattle.std.proofs.Common.{sym, ap, ◌∙◌, le_refl, lt-ltb, le-ltb}
use Rattle.std.proofs.Math.Arith.{digits_lt}
use Rattle.meaning.specs.Tables.{tabulate, at}
use Rattle.meaning.specs.Elimination.{State, start, system}
use Rattle.theory.specs.Tables.{eq-tabulate}
use Rattle.theory.specs.MatrixTables.{flat, eq_matrix}

pub record Shows (rows cols : ℕ) (s : State) (mat rhs : List ℕ) : Type 0 where
  pub matrix_length : length mat ≡ rows * cols
  pub right_length : length rhs ≡ rows
  pub entries : (i c : ℕ) → i < rows → c < cols → at mat (i * cols + c) ≡ s.entry i c
  pub rights : (i : ℕ) → i < rows → at rhs i ≡ s.entry i cols

module _ (rows cols : ℕ) (s : State) (mat rhs : List ℕ) (h : Shows rows cols s mat rhs) where
  -- such tables are given by the state
  pub shown_matrix : mat ≡ tabulate (length mat) (flat cols s.entry)
  shown_matrix = eq_matrix mat rows cols s.entry h.matrix_length h.entries

  pub shown_right : rhs ≡ tabulate (length rhs) (λ i. s.entry i cols)
  shown_right = eq-tabulate rhs (length rhs) (λ i. s.entry i cols) refl (λ i l. h.rights i (rw h.right_length at l))

-- lent tables with every entry reduced modulo 2^w show the state before the first column
pub shown-start : (w rows cols : ℕ) (mat₀ rhs₀ mat rhs : List ℕ) → length mat ≡ rows * cols → length rhs ≡ rows
    → ((n : ℕ) → n < length mat → at mat n ≡ at mat₀ n % 2 ^ w) → ((i : ℕ) → i < length rhs → at rhs i ≡ at rhs₀ i % 2 ^ w)
    → Shows rows cols (start (system w cols mat₀ rhs₀)) mat rhs
unfolding start system
shown-start w rows cols mat₀ rhs₀ mat rhs m r a b =
    record {
      matrix_length = m;
      right_length = r;
      entries =
          λ i c p q.
          a (i * cols + c) (rw m (digits_lt p q))
          ∙ ap (λ (t : Bool). cond t (at mat₀ (i * cols + c)) (at rhs₀ i) % 2 ^ w) (sym (lt-ltb c cols q));
      rights =
          λ i p.
          b i (rw r p)
          ∙ ap (λ (t : Bool). cond t (at mat₀ (i * cols + cols)) (at rhs₀ i) % 2 ^ w) (sym (le-ltb cols cols (le_refl cols)));
    }
