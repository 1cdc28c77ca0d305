-- Back-substitution. The value of a column depends on the columns after it only, and a column keeps the value that it was given; so the values at
-- the end are, column for column, those that the definition computes from them. Each pivot row is then solved, every unused row is 0 all along,
-- and the elimination has kept the solutions: what succeeds solves the system.
use Rattle.std.specs.Prelude.{◌≡◌, ◌↔◌, Bool, true, false, ◌&&◌, ◌||◌, cond, T, ltb, refl, ℕ, zero, suc, ◌+◌, ◌*◌, ◌-◌, ◌%◌, ◌^◌, ◌≤◌, ◌<◌, eqb}
use Rattle.std.proofs.Common.{sym, ap, subst, ◌∙◌, true≢false, not-suc-le-zero, le_refl, le_of_lt, ne_of_gt, zero-mul, zero-add, mul_comm, arith, ltb→lt, lt→ltb, eqb→eq, pow_pos, eq-eqb, ne_eqb}
use Rattle.meaning.specs.Sums.{sum}
use Rattle.meaning.specs.Factorials.{twos_of}
use Rattle.meaning.specs.Differences.{minus}
use Rattle.meaning.specs.Recovery.{every}
use Rattle.meaning.specs.Elimination.{quotient, State, eliminated, pivot_entry, rest, divides_rest, unknown, backward, substituted, succeeds}
use Rattle.theory.specs.Congruence.{Cong, cong_of_eq, cong_trans, cong_add_right, minus-add}
use Rattle.theory.specs.Sums.{sum_eq, sum-zero, sum_last, sum_split}
use Rattle.theory.specs.Every.{and_iff, last, every-iff}
use Rattle.theory.specs.LinearSystems.{Solves}
use Rattle.theory.specs.OneEquation.{quotient-mul}
use Rattle.theory.specs.Elimination.{solves-eliminated}
use Rattle.theory.specs.Echelon.{Echelon, ItsColumn, echelon_eliminated}

module _ (w cols : ℕ) (s : State) where
  -- what is left of a right side depends on the columns after c only, and so does the value of c
  pub rest_eq : (x y : ℕ → ℕ) (c : ℕ) → ((j : ℕ) → c < j → x j ≡ y j) → rest w cols s x c ≡ rest w cols s y c
  unfolding rest
  rest_eq x y c h =
      ap (minus (2 ^ w) (s.entry (s.pivot c) cols))
      (sum_eq (cols - suc c) (λ k p. ap (s.entry (s.pivot c) (suc c + k) *◌) (h (suc c + k) (omega arith))))

  pub unknown-eq : (x y : ℕ → ℕ) (c : ℕ) → ((j : ℕ) → c < j → x j ≡ y j) → unknown w cols s x c ≡ unknown w cols s y c
  unfolding unknown
  unknown-eq x y c h = ap (quotient w (twos_of w (pivot_entry s c)) (pivot_entry s c)) (rest_eq x y c h)

  pub divides_rest-eq : (x y : ℕ → ℕ) (c : ℕ) → ((j : ℕ) → c < j → x j ≡ y j) → divides_rest w cols s x c ≡ divides_rest w cols s y c
  unfolding divides_rest
  divides_rest-eq x y c h = ap (λ (r : ℕ). eqb (r % 2 ^ twos_of w (pivot_entry s c)) 0) (rest_eq x y c h)

  -- x with the value v in column c
  abbrev pub put : ℕ → ℕ → (ℕ → ℕ) → ℕ → ℕ
  put c v x k = cond (eqb k c) v (x k)

  put_same : (c v : ℕ) (x : ℕ → ℕ) → put c v x c ≡ v
  put_same c v x = ap (λ (b : Bool). cond b v (x c)) (eq-eqb c c refl)

  put_other : (c v : ℕ) (x : ℕ → ℕ) (j : ℕ) → (j ≡ c → ⊥) → put c v x j ≡ x j
  put_other c v x j h = ap (λ (b : Bool). cond b v (x j)) (ne_eqb j c h)

  -- columns from c on keep their values
  pub backward_keeps : (c : ℕ) (x : ℕ → ℕ) (j : ℕ) → c ≤ j → backward w cols s c x j ≡ x j
  unfolding backward
  backward_keeps zero x j h = refl
  backward_keeps (suc c) x j h =
      backward_keeps c (put c (unknown w cols s x c) x) j (omega arith) ∙ put_other c _ x j (ne_of_gt h)

  -- every column before c has the value that follows from the values after it
  pub backward-unknown : (c : ℕ) (x : ℕ → ℕ) (j : ℕ) → j < c → backward w cols s c x j ≡ unknown w cols s (backward w cols s c x) j
  unfolding backward
  backward-unknown zero x j h = absurd (not-suc-le-zero h)
  backward-unknown (suc c) x j h =
      let v = unknown w cols s x c in
      last (λ j. backward w cols s c (put c v x) j ≡ unknown w cols s (backward w cols s c (put c v x)) j) j h
      (backward_keeps c (put c v x) c (le_refl c) ∙ put_same c v x
      ∙ unknown-eq x _ c (λ k l. sym (backward_keeps c (put c v x) k (le_of_lt l) ∙ put_other c v x k (ne_of_gt l))))
      (backward-unknown c (put c v x) j)

  pub substituted-unknown : (c : ℕ) → c < cols → substituted w cols s c ≡ unknown w cols s (substituted w cols s) c
  unfolding substituted
  substituted-unknown c h = backward-unknown cols (λ j. 0) c h

  -- a row that is 0 before column c is solved by values of which that of c follows from those after it
  pub pivot_row_solved : (x : ℕ → ℕ) (c : ℕ) → c < cols → ((k : ℕ) → k < c → s.entry (s.pivot c) k ≡ 0)
      → T (divides_rest w cols s x c) → x c ≡ unknown w cols s x c
      → Cong (2 ^ w) (sum cols (λ j. s.entry (s.pivot c) j * x j)) (s.entry (s.pivot c) cols)
  unfolding divides_rest unknown rest pivot_entry
  pivot_row_solved x c h zeros t v =
      cong_trans (cong_of_eq (2 ^ w) (split ∙ ap (◌+ later) (mul_comm (s.entry r c) (x c) ∙ ap (◌* s.entry r c) v)))
      (cong_trans (cong_add_right later (quotient-mul w (s.entry r c) (rest w cols s x c) (eqb→eq _ 0 t)))
      (minus-add (s.entry r cols) later (pow_pos w)))
    where
      r : ℕ
      r = s.pivot c

      f : ℕ → ℕ
      f j = s.entry r j * x j

      later : ℕ
      later = sum (cols - suc c) (λ k. s.entry r (suc c + k) * x (suc c + k))

      first : sum (suc c) f ≡ f c
      first = sum_last c f ∙ ap (◌+ f c) (sum-zero c (λ k l. ap (◌* x k) (zeros k l) ∙ zero-mul (x k))) ∙ zero-add (f c)

      split : sum cols f ≡ f c + later
      split =
          let e : cols ≡ suc c + (cols - suc c) = omega arith in
          ap (λ (n : ℕ). sum n f) e ∙ sum_split (suc c) (cols - suc c) f ∙ ap (◌+ later) first

-- what the test of success says
pub record Succeeds (w rows cols : ℕ) (s : State) : Type 0 where
  pub pivots : (c : ℕ) → c < cols → s.pivot c < rows
  pub right : (i : ℕ) → i < rows → s.used i ≡ false → s.entry i cols ≡ 0
  pub divide : (c : ℕ) → c < cols → T (divides_rest w cols s (substituted w cols s) c)

-- a test that is passed by an or whose first part fails
or_right : (a : Bool) (n : ℕ) → T (a || eqb n 0) ↔ (a ≡ false → n ≡ 0)
or_right true n = (λ t e. absurd (true≢false e), λ h. tt)
or_right false n = (λ t e. eqb→eq n 0 t, λ h. rw (h refl) tt)

pub succeeds-iff : (w rows cols : ℕ) (s : State) → T (succeeds w rows cols s) ↔ Succeeds w rows cols s
unfolding succeeds
succeeds-iff w rows cols s = (there, back)
  where
    have : Bool
    have = every cols (λ c. ltb (s.pivot c) rows)

    right : Bool
    right = every rows (λ i. s.used i || eqb (s.entry i cols) 0)

    divide : Bool
    divide = every cols (λ c. divides_rest w cols s (substituted w cols s) c)

    there : T (have && right && divide) → Succeeds w rows cols s
    there t =
        let a = (and_iff (have && right) divide).0 t in
        let b = (and_iff have right).0 a.0 in
        record {
          pivots = λ c h. ltb→lt _ _ ((every-iff cols (λ c. ltb (s.pivot c) rows)).0 b.0 c h);
          right = λ i h. (or_right (s.used i) (s.entry i cols)).0 ((every-iff rows (λ i. s.used i || eqb (s.entry i cols) 0)).0 b.1 i h);
          divide = (every-iff cols (λ c. divides_rest w cols s (substituted w cols s) c)).0 a.1;
        }

    back : Succeeds w rows cols s → T (have && right && divide)
    back k =
        (and_iff (have && right) divide).1 (
          (and_iff have right).1 (
            (every-iff cols (λ c. ltb (s.pivot c) rows)).1 (λ c h. lt→ltb _ _ (k.pivots c h)),
            (every-iff rows (λ i. s.used i || eqb (s.entry i cols) 0)).1 (λ i h. (or_right (s.used i) (s.entry i cols)).1 (k.right i h)),
          ),
          (every-iff cols (λ c. divides_rest w cols s (substituted w cols s) c)).1 k.divide,
        )

-- where the elimination succeeds, the values solve what it has made of the system
pub substituted-solves_echelon : (w rows cols : ℕ) (s : State) → Echelon w rows s cols → Succeeds w rows cols s
    → Solves (2 ^ w) rows cols s.entry (substituted w cols s)
substituted-solves_echelon w rows cols s h t = record { holds = λ i l. row i l (s.used i) refl }
  where
    x : ℕ → ℕ
    x = substituted w cols s

    column : (i : ℕ) → ItsColumn s cols i → Cong (2 ^ w) (sum cols (λ c. s.entry i c * x c)) (s.entry i cols)
    column i k =
        let c = k.column in
        let l = t.pivots c k.below in
        subst (λ (r : ℕ). Cong (2 ^ w) (sum cols (λ c. s.entry r c * x c)) (s.entry r cols)) k.pivot_eq
        (pivot_row_solved w cols s x c k.below (h.pivots c k.below l).zeros (t.divide c k.below) (substituted-unknown w cols s c k.below))

    row : (i : ℕ) → i < rows → (b : Bool) → s.used i ≡ b → Cong (2 ^ w) (sum cols (λ c. s.entry i c * x c)) (s.entry i cols)
    row i l true e = column i (h.columns i l e)
    row i l false e =
        cong_of_eq (2 ^ w)
        (sum-zero cols (λ c q. ap (◌* x c) (h.cleared i l e c q) ∙ zero-mul (x c)) ∙ sym (t.right i l e))

-- where the elimination succeeds, the values solve the system
pub substituted-solves : (w rows cols : ℕ) (A : ℕ → ℕ → ℕ) → ((i j : ℕ) → A i j < 2 ^ w)
    → T (succeeds w rows cols (eliminated w rows cols A)) → Solves (2 ^ w) rows cols A (substituted w cols (eliminated w rows cols A))
substituted-solves w rows cols A small t =
    (solves-eliminated w rows cols A _).1
    (substituted-solves_echelon w rows cols _ (echelon_eliminated w rows cols A small) ((succeeds-iff w rows cols _).0 t))
