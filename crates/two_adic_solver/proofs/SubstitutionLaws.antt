-- Back-substitution on tables: tests of all rows and columns, a column's rest and value, and the columns one after the other, last first.
use Rattle.std.proofs.Common.{◌≡◌, ℕ, suc, ◌+◌, ◌-◌, ◌*◌, ◌/◌, ◌%◌, ◌^◌, ◌<◌, ◌≤◌, min, Bool, true, false, T, eqb, List, length, set, sym, refl, ap, ◌∙◌, subst, ap₂, ⊎_elim, zero-le, le_trans, le_of_eq, le_refl, mul-le-mul_right, suc-mul, eq-or-lt_of_le, ne_of_gt, arith, get_or-set_other, get_or-set_same, eq-eqb, ne_eqb}
use Rattle.std.proofs.Math.Nat.{min-eq_left}
use Rattle.std.proofs.Math.ListN.{get_or-eq_default}
use Rattle.meaning.specs.Tables.{at}
use Rattle.meaning.specs.Factorials.{twos_of}
use Rattle.meaning.specs.Inverses.{inverse}
use Rattle.meaning.specs.Sums.{sum}
use Rattle.meaning.specs.Differences.{minus}
use Rattle.meaning.specs.Recovery.{every}
use Rattle.meaning.specs.Elimination.{State, quotient, pivot_entry, rest, divides_rest, unknown, substituted}
use Rattle.theory.specs.Sums.{sum_eq}
use Rattle.theory.specs.Every.{true-iff, every-iff}
use Rattle.theory.specs.BackSubstitution.{unknown-eq, divides_rest-eq, backward_keeps, substituted-unknown}
use Rattle.theory.specs.Parts.{part, length_part, at_part}
use Rattle.two_adic_solver.specs.ShownStates.{Shows}
use Rattle.two_adic_solver.specs.Solved.{rest_of, Solved, Substituted}
use Rattle.two_adic_solver.proofs.ClearLaws.{quotient-told}
use Rattle.two_adic_solver.proofs.RowLaws.{minus_word}

-- ---- one column

-- the rest from the parts of the row and of the values behind column c
pub rest_computed : (w rows cols : ℕ) (mat rhs x : List ℕ) (p c known r : ℕ) → length mat ≡ rows * cols → p < rows → c < cols → length x ≡ cols → w ≤ 64
    → known ≡ sum (length (part (p * cols + c + 1) (p * cols + cols) mat))
    (λ k. at (part (p * cols + c + 1) (p * cols + cols) mat) k * at (part (c + 1) cols x) k) % 2 ^ 64
    → r ≡ minus (2 ^ min w 64) (at rhs p) known → r ≡ rest_of w cols mat rhs x p c
unfolding rest_of
rest_computed w rows cols mat rhs x p c known r em lp lc ex lw ek er =
    er
    ∙ ap (λ (n : ℕ). minus (2 ^ n) (at rhs p) known) (min-eq_left lw)
    ∙ ap (minus (2 ^ w) (at rhs p)) (ek ∙ ap (◌% 2 ^ 64) (ap (λ (n : ℕ). sum n f) size ∙ sum_eq (cols - suc c) same))
    ∙ minus_word w (at rhs p) _ lw
  where
    a : ℕ
    a = p * cols + c + 1

    e : ℕ
    e = p * cols + cols

    f : ℕ → ℕ
    f k = at (part a e mat) k * at (part (c + 1) cols x) k

    fits : e ≤ length mat
    fits = omega (arith, em, suc-mul p cols, mul-le-mul_right cols lp)

    fitx : cols ≤ length x
    fitx = omega (arith, ex)

    size : length (part a e mat) ≡ cols - suc c
    size = length_part a e mat fits ∙ omega arith

    same : (k : ℕ) → k < cols - suc c → f k ≡ at mat (p * cols + (suc c + k)) * at x (suc c + k)
    same k l =
        let i : a + k ≡ p * cols + (suc c + k) = omega arith in
        let j : c + 1 + k ≡ suc c + k = omega arith in
        ap₂ ◌*◌ (at_part a e mat fits k (omega arith) ∙ ap (at mat) i) (at_part (c + 1) cols x fitx k (omega arith) ∙ ap (at x) j)

module _ (w rows cols : ℕ) (s : State) (mat rhs : List ℕ) (h : Shows rows cols s mat rhs) (x : List ℕ) (p c : ℕ) (lp : p < rows) (lc : c < cols)
    (e : s.pivot c ≡ p) where
  pub rest-told : rest_of w cols mat rhs x p c ≡ rest w cols s (at x) c
  unfolding rest_of rest
  rest-told =
      ap₂ (minus (2 ^ w)) (h.rights p lp)
      (sum_eq (cols - suc c) (λ k l. ap (◌* at x (suc c + k)) (h.entries p (suc c + k) lp (omega arith))))
      ∙ ap (λ (i : ℕ). minus (2 ^ w) (s.entry i cols) (sum (cols - suc c) (λ k. s.entry i (suc c + k) * at x (suc c + k)))) (sym e)

  entry-told : at mat (p * cols + c) ≡ pivot_entry s c
  unfolding pivot_entry
  entry-told = h.entries p c lp lc ∙ ap (λ (i : ℕ). s.entry i c) (sym e)

  module _ (t r : ℕ) (et : t ≡ twos_of w (at mat (p * cols + c))) (er : r ≡ rest_of w cols mat rhs x p c) where
    twos-told : t ≡ twos_of w (pivot_entry s c)
    twos-told = et ∙ ap (twos_of w) entry-told

    pub divides-told : eqb (r % 2 ^ t) 0 ≡ divides_rest w cols s (at x) c
    unfolding divides_rest
    divides-told = ap₂ (λ (r t : ℕ). eqb (r % 2 ^ t) 0) (er ∙ rest-told) twos-told

    pub solved_fails : (r % 2 ^ t ≡ 0 → ⊥) → (x' : List ℕ) → Solved w cols s c x x' false
    solved_fails ne x' =
        record { divides = sym (ne_eqb _ 0 ne) ∙ divides-told; value = λ f. cc }

    pub solved_passes : r % 2 ^ t ≡ 0 → (v m : ℕ) → v ≡ inverse (at mat (p * cols + c) / 2 ^ t) (w - t) → m ≡ (r / 2 ^ t * v) % 2 ^ (w - t)
        → Solved w cols s c x (set x c m) true
    unfolding unknown
    solved_passes z v m ev em =
        record {
          divides = sym (eq-eqb _ 0 z) ∙ divides-told;
          value =
              λ f.
              ap (set x c)
              (quotient-told w t (pivot_entry s c) (rest w cols s (at x) c) r v m em (er ∙ rest-told)
              (ev ∙ ap (λ (y : ℕ). inverse (y / 2 ^ t) (w - t)) entry-told)
              ∙ ap (λ (t : ℕ). quotient w t (pivot_entry s c) (rest w cols s (at x) c)) twos-told);
        }

-- ---- the columns, last first

-- the columns from c on have their values, and divide
pub record Values (w cols : ℕ) (s : State) (x : List ℕ) (c : ℕ) : Type 0 where
  pub agree : (j : ℕ) → c ≤ j → at x j ≡ substituted w cols s j
  pub passed : (j : ℕ) → c ≤ j → j < cols → divides_rest w cols s (substituted w cols s) j ≡ true

-- the columns before c still have their pivot rows, those of x₀
pub record Substituting (w cols : ℕ) (x₀ mat rhs x : List ℕ) (c : ℕ) : Type 0 where
  pub same : length x ≡ cols
  pub within : c ≤ cols
  pub kept : (j : ℕ) → j < c → at x j ≡ at x₀ j
  pub so_far : (s : State) → Shows (length rhs) cols s mat rhs → ((j : ℕ) → j < cols → at x₀ j ≡ s.pivot j) → Values w cols s x c

module _ (w cols : ℕ) (s : State) where
  -- behind the last column there are zeros
  values_start : (x : List ℕ) → length x ≡ cols → Values w cols s x cols
  unfolding substituted
  values_start x e =
      record {
        agree = λ j l. get_or-eq_default x 0 (le_trans (le_of_eq e) l) ∙ sym (backward_keeps w cols s cols (λ k. 0) j l);
        passed = λ j l k. absurd (omega arith);
      }

  -- whether a column divides is known when its turn comes
  turn : (x : List ℕ) (d : ℕ) → Values w cols s x (suc d) → divides_rest w cols s (substituted w cols s) d ≡ divides_rest w cols s (at x) d
  turn x d v = divides_rest-eq w cols s (substituted w cols s) (at x) d (λ j l. sym (v.agree j l))

  values_step : (x x' : List ℕ) (d : ℕ) → d < length x → d < cols → Values w cols s x (suc d) → Solved w cols s d x x' true → Values w cols s x' d
  values_step x x' d lx ld v r =
      record {
        agree =
            λ j l.
            ap (λ (y : List ℕ). at y j) (r.value refl)
            ∙ ⊎_elim (λ (e : d ≡ j). subst (λ (k : ℕ). at (set x d u) k ≡ substituted w cols s k) e here)
            (λ (e : d < j). get_or-set_other x d j u 0 (ne_of_gt e) ∙ v.agree j e) (eq-or-lt_of_le l);
        passed =
            λ j l k.
            ⊎_elim (λ (e : d ≡ j). ap (divides_rest w cols s (substituted w cols s)) (sym e) ∙ turn x d v ∙ sym r.divides)
            (λ (e : d < j). v.passed j e k) (eq-or-lt_of_le l);
      }
    where
      u : ℕ
      u = unknown w cols s (at x) d

      here : at (set x d u) d ≡ substituted w cols s d
      here =
          get_or-set_same x d u 0 lx
          ∙ unknown-eq w cols s (at x) (substituted w cols s) d (λ j l. v.agree j l)
          ∙ sym (substituted-unknown w cols s d ld)

  values_fail : (x x' y : List ℕ) (d : ℕ) → d < cols → Values w cols s x (suc d) → Solved w cols s d x x' false → Substituted w cols s y false
  values_fail x x' y d ld v r =
      record {
        divide = fails (turn x d v ∙ sym r.divides) (every cols passes) refl;
        values = λ f. cc;
      }
    where
      passes : ℕ → Bool
      passes = divides_rest w cols s (substituted w cols s)

      fails : passes d ≡ false → (b : Bool) → every cols passes ≡ b → false ≡ b
      fails e false h = refl
      fails e true h = absurd (subst (λ (b : Bool). T b) e ((every-iff cols passes).0 ((true-iff _).0 h) d ld))

  values_done : (x : List ℕ) → Values w cols s x 0 → Substituted w cols s x true
  values_done x v =
      record {
        divide = sym ((true-iff _).1 ((every-iff cols _).1 (λ j l. (true-iff _).0 (v.passed j zero-le l))));
        values = λ f j l. v.agree j zero-le;
      }

module _ (w cols : ℕ) (x₀ mat rhs : List ℕ) where
  pub substituting_start : length x₀ ≡ cols → Substituting w cols x₀ mat rhs x₀ cols
  substituting_start e = record { same = e; within = le_refl cols; kept = λ j l. refl; so_far = λ s h k. values_start w cols s x₀ e }

  module _ (x x' : List ℕ) (c : ℕ) (pos : 0 < c) (r : Substituting w cols x₀ mat rhs x c) where
    whole : c ≡ suc (c - 1)
    whole = omega arith

    -- the next column, and its pivot row
    pub next_lt : c - 1 < cols
    next_lt = omega (arith, r.within)

    next_pivot : at x (c - 1) ≡ at x₀ (c - 1)
    next_pivot = r.kept (c - 1) (omega arith)

    abbrev Turn : Bool → Type 0
    Turn b = (s : State) → Shows (length rhs) cols s mat rhs → s.pivot (c - 1) ≡ at x (c - 1) → Solved w cols s (c - 1) x x' b

    turned : (b : Bool) → Turn b → (s : State) → Shows (length rhs) cols s mat rhs → ((j : ℕ) → j < cols → at x₀ j ≡ s.pivot j)
        → Solved w cols s (c - 1) x x' b
    turned b f s h k = f s h (sym (next_pivot ∙ k (c - 1) next_lt))

    pub substituting_step : length x' ≡ length x → ((j : ℕ) → j < c - 1 → at x' j ≡ at x j) → Turn true → Substituting w cols x₀ mat rhs x' (c - 1)
    substituting_step e f t =
        record {
          same = e ∙ r.same;
          within = omega (arith, r.within);
          kept = λ j l. f j l ∙ r.kept j (omega arith);
          so_far =
              λ s h k.
              values_step w cols s x x' (c - 1) (omega (arith, r.same, r.within)) next_lt (subst (Values w cols s x) whole (r.so_far s h k))
              (turned true t s h k);
        }

    pub substituting_fails : Turn false
        → (y : List ℕ) (s : State) → Shows (length rhs) cols s mat rhs → ((j : ℕ) → j < cols → at x₀ j ≡ s.pivot j) → Substituted w cols s y false
    substituting_fails t y s h k =
        values_fail w cols s x x' y (c - 1) next_lt (subst (Values w cols s x) whole (r.so_far s h k)) (turned false t s h k)

  pub substituting_done : (x : List ℕ) (c : ℕ) → Substituting w cols x₀ mat rhs x c → c ≤ 0
      → (s : State) → Shows (length rhs) cols s mat rhs → ((j : ℕ) → j < cols → at x₀ j ≡ s.pivot j) → Substituted w cols s x true
  substituting_done x c r z s h k =
      let e : c ≡ 0 = omega arith in
      values_done w cols s x (subst (Values w cols s x) e (r.so_far s h k))
