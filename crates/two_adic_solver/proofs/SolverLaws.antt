-- The bare solver: the tables before the first column, and the tests after the last one.
use Rattle.std.proofs.Common.{◌≡◌, ℕ, suc, ◌+◌, ◌*◌, ◌/◌, ◌%◌, ◌^◌, ◌<◌, ◌≤◌, Bool, true, false, cond, ◌&&◌, ◌||◌, eqb, ltb, List, length, get_or, sym, refl, ap, ◌∙◌, subst, ap₂, not-suc-le-zero, le_of_eq, arith, ltb-true, eq-eqb, ne_eqb, lt-ltb, le-ltb, pos_of_ne-zero}
use Rattle.std.proofs.Math.Bool.{and-false}
use Rattle.meaning.specs.Settings.{fits_width, first}
use Rattle.meaning.specs.Calls.{left}
use Rattle.meaning.specs.Tables.{at, tabulate}
use Rattle.meaning.specs.Factorials.{twos_of}
use Rattle.meaning.specs.Recovery.{every}
use Rattle.meaning.specs.Elimination.{State, start, forward, eliminated, system, divides_rest, substituted, succeeds, solver_rows, solver_cause, solver_state, solver_succeeds, solver_number, solver_answer, solver_matrix, solver_right}
use Rattle.theory.specs.Every.{true-iff, every-iff, every_cong}
use Rattle.theory.specs.Tables.{length-tabulate, at-tabulate, eq-tabulate}
use Rattle.theory.specs.Echelon.{echelon_start}
use Rattle.theory.specs.SolverLaws.{system-lt}
use Rattle.two_adic_solver.specs.ShownStates.{shown-start, shown_matrix, shown_right}
use Rattle.two_adic_solver.specs.Shown.{Shown}
use Rattle.two_adic_solver.specs.Solved.{end_of, Substituted, Ended, Concluded, Finished}
use Rattle.two_adic_solver.proofs.ColumnLaws.{Passed}

-- reduced tables show the system before the first column
pub shown_reduced : (w rows cols : ℕ) (mat₀ rhs₀ mat rhs : List ℕ) (used : List Bool) (pivots : List ℕ) → length mat₀ ≡ rows * cols → length rhs₀ ≡ rows
    → mat ≡ tabulate (length mat₀) (λ n. at mat₀ n % 2 ^ w) → rhs ≡ tabulate (length rhs₀) (λ n. at rhs₀ n % 2 ^ w)
    → ((i : ℕ) → i < rows → get_or used i false ≡ false) → Shown w rows cols (start (system w cols mat₀ rhs₀)) 0 mat rhs used pivots
unfolding start
shown_reduced w rows cols mat₀ rhs₀ mat rhs used pivots em er fm fr free =
    record {
      shows =
          shown-start w rows cols mat₀ rhs₀ mat rhs (lm ∙ em) (lr ∙ er)
          (λ n l. ap (λ (t : List ℕ). at t n) fm ∙ at-tabulate (length mat₀) (λ n. at mat₀ n % 2 ^ w) n (rw lm at l))
          (λ n l. ap (λ (t : List ℕ). at t n) fr ∙ at-tabulate (length rhs₀) (λ n. at rhs₀ n % 2 ^ w) n (rw lr at l));
      echelon = echelon_start w rows (system w cols mat₀ rhs₀) (system-lt w cols mat₀ rhs₀);
      marked = free;
      rows_eq = λ j l. absurd (not-suc-le-zero l);
    }
  where
    lm : length mat ≡ length mat₀
    lm = ap length fm ∙ length-tabulate (length mat₀) _

    lr : length rhs ≡ length rhs₀
    lr = ap length fr ∙ length-tabulate (length rhs₀) _

-- ---- the tests

module _ (w rows cols : ℕ) (mat rhs : List ℕ) (used : List Bool) (pivots : List ℕ) where
  -- where every column has a pivot, its entry has fewer twos than the width
  pub ended_low : Ended w rows cols mat rhs used pivots → true ≡ every cols (λ c. ltb (at pivots c) rows)
      → (j : ℕ) → j < cols → (at pivots j < rows) × (twos_of w (at mat (at pivots j * cols + j)) < w)
  ended_low r e j l =
      let h = r.shown in
      let have = (every-iff cols (λ c. ltb (at pivots c) rows)).0 ((true-iff _).0 (sym e)) j l in
      let p : at pivots j < rows = ltb-true _ _ ((true-iff _).1 have) in (
        p,
        subst (λ (n : ℕ). twos_of w n < w)
            (sym (h.shows.entries (at pivots j) j p l ∙ ap (λ (i : ℕ). r.state.entry i j) (h.rows_eq j l)))
            (h.echelon.pivots j l (subst (◌< rows) (h.rows_eq j l) p)).low,
      )

  module _ (s : State) (h : Shown w rows cols s cols mat rhs used pivots) (x : List ℕ) where
    have : every cols (λ c. ltb (at pivots c) rows) ≡ every cols (λ c. ltb (s.pivot c) rows)
    have = every_cong cols (λ c l. ap (λ (p : ℕ). ltb p rows) (h.rows_eq c l))

    right : every rows (λ i. get_or used i false || eqb (at rhs i) 0) ≡ every rows (λ i. s.used i || eqb (s.entry i cols) 0)
    right = every_cong rows (λ i l. ap₂ (λ (b : Bool) (n : ℕ). b || eqb n 0) (h.marked i l) (h.shows.rights i l))

    pub concluded_pivots : every cols (λ c. ltb (at pivots c) rows) ≡ false → Concluded w rows cols s x false
    unfolding succeeds
    concluded_pivots e =
        record {
          success =
              sym (ap (λ (a : Bool). (a && every rows (λ i. s.used i || eqb (s.entry i cols) 0)) && every cols
              (λ c. divides_rest w cols s (substituted w cols s) c))
              (sym have ∙ e));
          values = λ f. cc;
        }

    pub concluded_right : every rows (λ i. get_or used i false || eqb (at rhs i) 0) ≡ false → Concluded w rows cols s x false
    unfolding succeeds
    concluded_right e =
        record {
          success =
              sym (ap (λ (b : Bool). (every cols (λ c. ltb (s.pivot c) rows) && b) && every cols (λ c. divides_rest w cols s (substituted w cols s) c))
              (sym right ∙ e)
              ∙ ap (◌&& every cols (λ c. divides_rest w cols s (substituted w cols s) c)) (and-false (every cols (λ c. ltb (s.pivot c) rows))));
          values = λ f. cc;
        }

    pub concluded : (r : Bool) → every cols (λ c. ltb (at pivots c) rows) ≡ true → every rows (λ i. get_or used i false || eqb (at rhs i) 0) ≡ true
        → Substituted w cols s x r → Concluded w rows cols s x r
    unfolding succeeds
    concluded r a b k =
        record {
          success =
              k.divide
              ∙ sym (ap₂ (λ (a b : Bool). (a && b) && every cols (λ c. divides_rest w cols s (substituted w cols s) c)) (sym have ∙ a) (sym right ∙ b));
          values = k.values;
        }

-- ---- the elimination of the lent tables

pub eliminated-told : (w cols : ℕ) (mat₀ rhs₀ mat rhs : List ℕ) (used : List Bool) (piv mat' rhs' : List ℕ) (used' : List Bool) (piv' : List ℕ) (c : ℕ)
    → length mat₀ ≡ length rhs₀ * cols
    → mat ≡ tabulate (length mat₀) (λ n. at mat₀ n % 2 ^ w) → rhs ≡ tabulate (length rhs₀) (λ n. at rhs₀ n % 2 ^ w)
    → ((i : ℕ) → i < length rhs₀ → get_or used i false ≡ false)
    → Passed w cols mat rhs used piv mat' rhs' used' piv' c → cols ≤ c
    → Shown w (length rhs₀) cols (end_of w cols mat₀ rhs₀) cols mat' rhs' used' piv'
unfolding eliminated
eliminated-told w cols mat₀ rhs₀ mat rhs used piv mat' rhs' used' piv' c em fm fr free r l =
    let done : c ≡ cols = omega (arith, r.within) in
    subst (λ (k : ℕ). Shown w (length rhs₀) cols (forward w (length rhs₀) (start (system w cols mat₀ rhs₀)) k) k mat' rhs' used' piv') done
    (subst (λ (n : ℕ). (s : State) → Shown w n cols s 0 mat rhs used piv → Shown w n cols (forward w n s c) c mat' rhs' used' piv')
    (ap length fr ∙ length-tabulate (length rhs₀) _) r.so_far (start (system w cols mat₀ rhs₀))
    (shown_reduced w (length rhs₀) cols mat₀ rhs₀ mat rhs used piv em refl fm fr free))

-- ---- the whole of a system that fits

module _ (w cols : ℕ) (mat₀ rhs₀ : List ℕ) {mat rhs : List ℕ} {used : List Bool} {piv : List ℕ}
    (h : Shown w (length rhs₀) cols (end_of w cols mat₀ rhs₀) cols mat rhs used piv) where
  module _ {x : List ℕ} {r : Bool} (k : (s : State) → Shown w (length rhs) cols s cols mat rhs used piv → Concluded w (length rhs) cols s x r) where
    end : Concluded w (length rhs₀) cols (end_of w cols mat₀ rhs₀) x r
    end =
        subst (λ (n : ℕ). (s : State) → Shown w n cols s cols mat rhs used piv → Concluded w n cols s x r) h.shows.right_length k
        (end_of w cols mat₀ rhs₀) h

    told : (b : Bool) → r ≡ b → succeeds w (length rhs₀) cols (end_of w cols mat₀ rhs₀) ≡ b
    told b e = sym end.success ∙ e

    pub finished_accepted : r ≡ true → length x ≡ cols → Finished w cols mat₀ rhs₀ mat rhs x 0
    finished_accepted e l =
        record {
          number_eq = sym (ap (λ (b : Bool). cond b 0 10) (told true e));
          answer_eq =
              eq-tabulate x cols _ l
              (λ j q. end.values e j q ∙ sym (ap (λ (b : Bool). cond b (substituted w cols (end_of w cols mat₀ rhs₀) j) 0) (told true e)));
          shows = h.shows;
        }

-- ---- a call

module _ (w cols : ℕ) (mat rhs x : List ℕ) where
  -- its number and its tables
  abbrev pub Told : ℕ → List ℕ → List ℕ → List ℕ → Type 0
  Told n mat' rhs' x' =
      (n ≡ solver_number w cols mat rhs x) × (mat' ≡ solver_matrix w cols mat rhs x) × (rhs' ≡ solver_right w cols mat rhs x)
      × (x' ≡ solver_answer w cols mat rhs x)

  abbrev cause : Bool → Bool → Bool → ℕ
  cause a b d = cond a (cond b 8 (cond d 0 9)) 3

  abbrev big : Bool
  big = ltb 65536 (length mat) || ltb 65536 cols

  abbrev fits : Bool
  fits = ltb 0 cols && eqb (solver_rows cols mat * cols) (length mat) && eqb (length rhs) (solver_rows cols mat) && eqb (length x) cols

  cause-eq : (a b d : Bool) → fits_width w ≡ a → big ≡ b → fits ≡ d → solver_cause w cols mat rhs x ≡ cause a b d
  unfolding solver_cause
  cause-eq a b d e f g = ap₂ (λ (a b : Bool). cause a b fits) e f ∙ ap (cause a b) g

  refused : (n : ℕ) → solver_cause w cols mat rhs x ≡ suc n → Told (suc n) mat rhs x
  unfolding solver_number solver_matrix solver_right solver_answer
  refused n e = (
    sym (ap (λ (k : ℕ). first k (cond (solver_succeeds w cols mat rhs) 0 10)) e),
    sym (ap (λ (k : ℕ). left k (tabulate (length mat) (λ n. (solver_state w cols mat rhs).entry (n / cols) (n % cols))) mat) e),
    sym (ap (λ (k : ℕ). left k (tabulate (length rhs) (λ i. (solver_state w cols mat rhs).entry i cols)) rhs) e),
    sym (ap (λ (k : ℕ). left k (tabulate cols (λ c. cond (solver_succeeds w cols mat rhs) (substituted w cols (solver_state w cols mat rhs) c) 0)) x) e),
  )

  -- no cause
  accepted : solver_cause w cols mat rhs x ≡ 0 → length rhs ≡ solver_rows cols mat → (n : ℕ) (mat' rhs' x' : List ℕ) → length mat' ≡ length mat
      → Finished w cols mat rhs mat' rhs' x' n → Told n mat' rhs' x'
  unfolding solver_number solver_matrix solver_right solver_answer solver_succeeds solver_state
  accepted none q n mat' rhs' x' lm k =
      let end : ℕ → State = λ r. eliminated w r cols (system w cols mat rhs) in (
        k.number_eq
            ∙ ap (λ (r : ℕ). cond (succeeds w r cols (end r)) 0 10) q
            ∙ sym (ap (λ (k : ℕ). first k (cond (solver_succeeds w cols mat rhs) 0 10)) none),
        shown_matrix (length rhs) cols (end (length rhs)) mat' rhs' k.shows
            ∙ ap₂ (λ (l r : ℕ). tabulate l (λ n. (end r).entry (n / cols) (n % cols))) lm q
            ∙ sym (ap (λ (k : ℕ). left k (tabulate (length mat) (λ n. (solver_state w cols mat rhs).entry (n / cols) (n % cols))) mat) none),
        shown_right (length rhs) cols (end (length rhs)) mat' rhs' k.shows
            ∙ ap₂ (λ (l r : ℕ). tabulate l (λ i. (end r).entry i cols)) k.shows.right_length q
            ∙ sym (ap (λ (k : ℕ). left k (tabulate (length rhs) (λ i. (solver_state w cols mat rhs).entry i cols)) rhs) none),
        k.answer_eq
            ∙ ap (λ (r : ℕ). tabulate cols (λ c. cond (succeeds w r cols (end r)) (substituted w cols (end r) c) 0)) q
            ∙ sym (ap (λ (k : ℕ). left k (tabulate cols (λ c. cond (solver_succeeds w cols mat rhs)
            (substituted w cols (solver_state w cols mat rhs) c) 0)) x) none),
      )

  -- ---- its tests, one after the other

  pub refused_width : fits_width w ≡ false → Told 3 mat rhs x
  refused_width e = refused 2 (cause-eq _ _ _ e refl refl)

  module _ (ok : fits_width w ≡ true) where
    pub many_entries : 65536 < length mat → Told 8 mat rhs x
    many_entries l = refused 7 (cause-eq _ _ _ ok (ap (◌|| ltb 65536 cols) (lt-ltb 65536 _ l)) refl)

    module _ (few : length mat ≤ 65536) where
      pub many_columns : 65536 < cols → Told 8 mat rhs x
      many_columns l = refused 7 (cause-eq _ _ _ ok (ap₂ ◌||◌ (le-ltb 65536 _ few) (lt-ltb 65536 _ l)) refl)

      module _ (narrow : cols ≤ 65536) where
        small : big ≡ false
        small = ap₂ ◌||◌ (le-ltb 65536 _ few) (le-ltb 65536 _ narrow)

        unfit : fits ≡ false → Told 9 mat rhs x
        unfit e = refused 8 (cause-eq _ _ _ ok small e)

        pub no_columns : cols ≡ 0 → Told 9 mat rhs x
        no_columns e =
            let whole : Bool = eqb (solver_rows cols mat * cols) (length mat) in
            let sides : Bool = eqb (length rhs) (solver_rows cols mat) in
            unfit (ap (λ (b : Bool). b && whole && sides && eqb (length x) cols) (le-ltb 0 cols (le_of_eq e)))

        pub ragged : (length mat / cols * cols ≡ length mat → ⊥) → Told 9 mat rhs x
        unfolding solver_rows
        ragged ne =
            let sides : Bool = eqb (length rhs) (length mat / cols) in
            unfit (ap (λ (b : Bool). (ltb 0 cols && b) && sides && eqb (length x) cols) (ne_eqb _ _ ne)
            ∙ ap (λ (b : Bool). b && sides && eqb (length x) cols) (and-false (ltb 0 cols)))

        pub wrong_right : (length rhs ≡ length mat / cols → ⊥) → Told 9 mat rhs x
        unfolding solver_rows
        wrong_right ne =
            let whole : Bool = ltb 0 cols && eqb (length mat / cols * cols) (length mat) in
            unfit (ap (λ (b : Bool). (whole && b) && eqb (length x) cols) (ne_eqb _ _ ne) ∙ ap (◌&& eqb (length x) cols) (and-false whole))

        pub wrong_answer : (length x ≡ cols → ⊥) → Told 9 mat rhs x
        wrong_answer ne =
            let rest : Bool = ltb 0 cols && eqb (solver_rows cols mat * cols) (length mat) && eqb (length rhs) (solver_rows cols mat) in
            unfit (ap (rest &&◌) (ne_eqb _ _ ne) ∙ and-false rest)

        pub fitting_call : (cols ≡ 0 → ⊥) → length mat / cols * cols ≡ length mat → length rhs ≡ length mat / cols → length x ≡ cols
            → (n : ℕ) (mat' rhs' x' : List ℕ) → length mat' ≡ length mat → Finished w cols mat rhs mat' rhs' x' n → Told n mat' rhs' x'
        unfolding solver_rows
        fitting_call a b d e =
            accepted
            (cause-eq _ _ _ ok small
            (ap₂ ◌&&◌ (ap₂ ◌&&◌ (ap₂ ◌&&◌ (lt-ltb 0 _ (pos_of_ne-zero a)) (eq-eqb _ _ b)) (eq-eqb _ _ d)) (eq-eqb _ _ e)))
            d
