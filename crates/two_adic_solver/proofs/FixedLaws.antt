-- A four by four matrix of rows, in the words of its rows one behind the other: one entry set, every entry reduced, a row less a multiple of another,
-- and the sum of products along a row.
use Rattle.std.proofs.Common.{◌≡◌, ℕ, zero, suc, ◌+◌, ◌-◌, ◌*◌, ◌%◌, ◌^◌, ◌<◌, ◌≤◌, ◌⊎◌, List, [], ◌∷◌, ◌++◌, length, get_or, set, sym, ap, ◌∙◌, subst, ap₂, ⊎_elim, suc-le-suc, le_refl, le_of_suc-le-suc, not-suc-le-zero, zero-lt-suc, eq-or-lt_of_le, lt_of_not-le, ne_of_gt, refl, ne_of_lt, add-one, arith, length-set, get_or-set_other, get_or-set_same}
use Rattle.std.proofs.Math.Decide.{dec_le}
use Rattle.std.proofs.Math.Nat.{add-sub_cancel_left}
use Rattle.std.proofs.lemmas.List.{set-append_left, set-append_right}
use Rattle.meaning.specs.Tables.{at, tabulate}
use Rattle.meaning.specs.Differences.{minus}
use Rattle.meaning.specs.Elimination.{joined}
use Rattle.theory.specs.Tables.{length-tabulate, at-tabulate, eq-tabulate}
use Rattle.theory.specs.MatrixTables.{places, at_joined}
use Rattle.theory.specs.Parts.{part, length_part, at_part}
use Rattle.two_adic_solver.specs.Fixed.{Square, joined_length}
use Rattle.two_adic_solver.specs.Rows.{Subtracted}
use Rattle.two_adic_solver.proofs.ClearLaws.{dec_eq}
use Rattle.two_adic_solver.proofs.RowLaws.{subtracted_step}

-- ---- rows one behind the other

-- rows of n entries each: the entry of row i and column c set
joined-put : (n : ℕ) (rs : List (List ℕ)) → ((i : ℕ) → i < length rs → length (get_or rs i []) ≡ n)
    → (i c v : ℕ) → i < length rs → c < n → joined (set rs i (set (get_or rs i []) c v)) ≡ set (joined rs) (i * n + c) v
unfolding joined
joined-put n [] h i c v p q = absurd (not-suc-le-zero p)
joined-put n (r ∷ rs) h zero c v p q =
    let e : c ≡ 0 * n + c = omega arith in
    sym (set-append_left r (joined rs) c v (rw (h 0 (zero-lt-suc (length rs))) q)) ∙ ap (λ (k : ℕ). set (r ++ joined rs) k v) e
joined-put n (r ∷ rs) h (suc i) c v p q =
    let e : length r + (i * n + c) ≡ suc i * n + c = omega (arith, h 0 (zero-lt-suc (length rs))) in
    ap (r ++◌) (joined-put n rs (λ i p. h (suc i) (suc-le-suc p)) i c v (le_of_suc-le-suc p) q)
    ∙ sym (set-append_right r (joined rs) (length r) (length r + (i * n + c)) v refl (omega arith)
    ∙ ap (λ (k : ℕ). r ++ set (joined rs) k v) (add-sub_cancel_left (length r) (i * n + c)))
    ∙ ap (λ (k : ℕ). set (r ++ joined rs) k v) e

module _ {m : List (List ℕ)} (q : Square m) where
  rows_full : (i : ℕ) → i < length m → length (get_or m i []) ≡ 4
  rows_full i l = q.row i (rw q.rows at l)

  pub joined-entry : (i c : ℕ) → i < 4 → c < 4 → at (joined m) (i * 4 + c) ≡ at (get_or m i []) c
  joined-entry i c p l = at_joined 4 m rows_full i c (rw q.rows p) l

  pub joined-set : (i c v : ℕ) → i < 4 → c < 4 → joined (set m i (set (get_or m i []) c v)) ≡ set (joined m) (i * 4 + c) v
  joined-set i c v p l = joined-put 4 m rows_full i c v (rw q.rows p) l

  -- a row behind a column
  pub joined-behind : (i c : ℕ) → i < 4 → c < 4 → part (c + 1) (length (get_or m i [])) (get_or m i []) ≡ part (i * 4 + c + 1) (i * 4 + 4) (joined m)
  joined-behind i c p l =
      let r : List ℕ = get_or m i [] in
      let f : ℕ → ℕ = λ k. at (joined m) (i * 4 + c + 1 + k) in
      let fits : i * 4 + 4 ≤ length (joined m) = omega (arith, joined_length q) in
      let count : i * 4 + 4 - (i * 4 + c + 1) ≡ 4 - (c + 1) = omega arith in
      let full : length r - (c + 1) ≡ 4 - (c + 1) = ap (◌- (c + 1)) (q.row i p) in
      eq-tabulate _ (4 - (c + 1)) f (length_part (c + 1) (length r) r (le_refl (length r)) ∙ full)
      (λ k b.
      let there : i * 4 + (c + 1 + k) ≡ i * 4 + c + 1 + k = omega arith in
      at_part (c + 1) (length r) r (le_refl (length r)) k (rw full b)
      ∙ sym (joined-entry i (c + 1 + k) p (omega arith))
      ∙ ap (at (joined m)) there)
      ∙ sym (eq-tabulate _ (4 - (c + 1)) f (length_part _ _ (joined m) fits ∙ count) (λ k b. at_part _ _ (joined m) fits k (rw count b)))

  -- a row replaced
  pub row_here : (i : ℕ) (r : List ℕ) → i < 4 → get_or (set m i r) i [] ≡ r
  row_here i r p = get_or-set_same m i r [] (rw q.rows p)

  pub square-set : (i : ℕ) (r : List ℕ) → i < 4 → length r ≡ 4 → Square (set m i r)
  square-set i r p e = record { rows = length-set m i r ∙ q.rows; row = λ k l. go k l (dec_eq k i) }
    where
      go : (k : ℕ) → k < 4 → Dec (k ≡ i) → length (get_or (set m i r) k []) ≡ 4
      go k l (yes x) = ap (λ (n : ℕ). length (get_or (set m i r) n [])) x ∙ ap length (row_here i r p) ∙ e
      go k l (no x) = ap length (get_or-set_other m i k r [] x) ∙ q.row k l

-- ---- every entry reduced, row after row

pub record RowsReduced (w : ℕ) (m₀ m : List (List ℕ)) (k : ℕ) : Type 0 where
  pub square : Square m
  pub below : (i c : ℕ) → i < k → c < 4 → at (get_or m i []) c ≡ at (get_or m₀ i []) c % 2 ^ w
  pub above : (i : ℕ) → k ≤ i → get_or m i [] ≡ get_or m₀ i []

module _ (w : ℕ) (m₀ : List (List ℕ)) (q₀ : Square m₀) where
  pub reduced_step : (m : List (List ℕ)) (k : ℕ) (r : List ℕ) → RowsReduced w m₀ m k → k < 4
      → r ≡ tabulate (length (get_or m k [])) (λ n. at (get_or m k []) n % 2 ^ w) → RowsReduced w m₀ (set m k r) (k + 1)
  reduced_step m k r h l e =
      record {
        square = square-set h.square k r l (ap length e ∙ length-tabulate _ _ ∙ full);
        below = λ i c p s. below i c s (eq-or-lt_of_le (le_of_suc-le-suc (rw (add-one k) at p)));
        above = λ i p. get_or-set_other m k i r [] (ne_of_gt (rw (add-one k) at p)) ∙ h.above i (omega arith);
      }
    where
      full : length (get_or m k []) ≡ 4
      full = h.square.row k l

      here : (c : ℕ) → c < 4 → at (get_or (set m k r) k []) c ≡ at (get_or m₀ k []) c % 2 ^ w
      here c s =
          ap (λ (t : List ℕ). at t c) (row_here h.square k r l ∙ e)
          ∙ at-tabulate (length (get_or m k [])) (λ n. at (get_or m k []) n % 2 ^ w) c (rw full s)
          ∙ ap (λ (t : List ℕ). at t c % 2 ^ w) (h.above k (le_refl k))

      below : (i c : ℕ) → c < 4 → (i ≡ k) ⊎ (i < k) → at (get_or (set m k r) i []) c ≡ at (get_or m₀ i []) c % 2 ^ w
      below i c s o =
          ⊎_elim (λ (x : i ≡ k). rw x (here c s))
          (λ (x : i < k). ap (λ (t : List ℕ). at t c) (get_or-set_other m k i r [] (ne_of_lt x)) ∙ h.below i c x s) o

  pub reduced_done : (m : List (List ℕ)) (k : ℕ) → RowsReduced w m₀ m k → 4 ≤ k
      → joined m ≡ tabulate (length (joined m₀)) (λ n. at (joined m₀) n % 2 ^ w)
  reduced_done m k h l =
      eq-tabulate (joined m) (length (joined m₀)) (λ n. at (joined m₀) n % 2 ^ w) (joined_length h.square ∙ sym (joined_length q₀))
      (λ n p. places 4 4 (λ n. at (joined m) n ≡ at (joined m₀) n % 2 ^ w) entry n (rw (joined_length q₀) at p))
    where
      entry : (i c : ℕ) → i < 4 → c < 4 → at (joined m) (i * 4 + c) ≡ at (joined m₀) (i * 4 + c) % 2 ^ w
      entry i c p s =
          joined-entry h.square i c p s ∙ h.below i c (omega arith) s ∙ ap (◌% 2 ^ w) (sym (joined-entry q₀ i c p s))

-- ---- row i less q times row p, from column c on

pub record RowLess (w q p i c : ℕ) (m₀ m : List (List ℕ)) (k : ℕ) : Type 0 where
  pub square : Square m
  pub from : c ≤ k
  pub within : k ≤ 4
  pub less : Subtracted (2 ^ w) q (i * 4 + c) (k - c) (λ j. at (joined m₀) (p * 4 + c + j)) (joined m₀) (joined m)

module _ (w q p i c : ℕ) (m₀ : List (List ℕ)) where
  abbrev Less : ℕ → List ℕ → Type 0
  Less n t = Subtracted (2 ^ w) q (i * 4 + c) n (λ j. at (joined m₀) (p * 4 + c + j)) (joined m₀) t

  module _ (m : List (List ℕ)) (k : ℕ) (h : RowLess w q p i c m₀ m k) where
    -- the source's number is not among those done
    source : p < 4 → i < 4 → k < 4 → Dec (i ≤ p) → at (joined m) (p * 4 + k) ≡ at (joined m₀) (p * 4 + k)
    source lp li lk (yes l) = h.less.after (p * 4 + k) (omega (arith, h.from))
    source lp li lk (no l) = h.less.before (p * 4 + k) (omega (arith, lt_of_not-le l))

    pub less-step : p < 4 → i < 4 → k < 4 → (v : ℕ) → v ≡ minus (2 ^ w) (at (get_or m i []) k) (q * at (get_or m p []) k)
        → RowLess w q p i c m₀ (set m i (set (get_or m i []) k v)) (k + 1)
    less-step lp li lk v e =
        let from : c ≤ k = h.from in
        let ni : i * 4 + c + (k - c) ≡ i * 4 + k = omega arith in
        let np : p * 4 + c + (k - c) ≡ p * 4 + k = omega arith in
        let nk : k - c + 1 ≡ k + 1 - c = omega arith in
        let value : v ≡ minus (2 ^ w) (at (joined m) (i * 4 + c + (k - c))) (q * at (joined m₀) (p * 4 + c + (k - c))) =
        e ∙ ap₂ (λ (x y : ℕ). minus (2 ^ w) x (q * y))
        (sym (ap (at (joined m)) ni ∙ joined-entry h.square i k li lk))
        (sym (ap (at (joined m₀)) np ∙ sym (source lp li lk (dec_le i p)) ∙ joined-entry h.square p k lp lk)) in
        let next : Less (k - c + 1) (set (joined m) (i * 4 + c + (k - c)) v) =
        subtracted_step (2 ^ w) q (i * 4 + c) _ (joined m₀) (joined m) (k - c) v h.less (omega (arith, joined_length h.square)) value in
        record {
          square = square-set h.square i _ li (length-set (get_or m i []) k v ∙ h.square.row i li);
          from = omega arith;
          within = omega arith;
          less =
              subst (λ (n : ℕ). Less n (joined (set m i (set (get_or m i []) k v)))) nk
              (subst (Less (k - c + 1)) (ap (λ (n : ℕ). set (joined m) n v) ni ∙ sym (joined-set h.square i k v li lk)) next);
        }
