-- Singleton powers. A table has a line of `size` cells for each variable. A line is a box of one variable, whose settings pass; the lines are done one
-- after the other, and what is kept is that those before a place are accepted and that the output below the place is the answer's.
use Rattle.std.specs.Prelude.{◌≡◌, refl, true, ◌&&◌, ◌⊎◌, T, length, set, take, drop, Bool, false, cond, List, [], ◌∷◌, ℕ, zero, suc, pred, ◌+◌, ◌*◌, ◌-◌, ◌/◌, ◌%◌, ◌≤◌, ◌<◌, ltb, eqb}
use Rattle.std.proofs.Common.{sym, ap, ◌∙◌, ap₂, subst, inl, inr, not-suc-le-zero, eq-or-lt_of_le, le_of_suc-le-suc, suc-ne-zero, suc-mul, zero-mul, mul-le-mul_right, lt_of_mul-lt-mul_right, arith, length-set, get_or-set_same, get_or-set_other}
use borrow.Author.Tests.{lt-ltb, le-ltb, eq-eqb, ne_eqb}
use Rattle.std.proofs.Math.Arith.{digits_div, digits_mod}
use Rattle.meaning.specs.Tables.{tabulate, at}
use Rattle.meaning.specs.Factorials.{degree_cap_of}
use Rattle.meaning.specs.Boxes.{cells}
use Rattle.meaning.specs.Recovery.{every, accepts, answer}
use Rattle.meaning.specs.Settings.{fits_width, some, repeated, settings_number, limited_number, call_number, first}
use Rattle.meaning.specs.Calls.{left, in_out_number, recovery_number, recovery_left}
use Rattle.meaning.specs.Singletons.{one_line, line, singleton_accepts, singleton_answer, singleton_settings, singleton_number, singleton_left}
use Rattle.theory.specs.Tables.{Filled, filled_start, eq-tabulate, length-tabulate}
use Rattle.theory.specs.Parts.{part, put, length_part, filled_part}
use Rattle.theory.specs.Every.{every-iff}

-- a number that is 0 where b holds, else 6
is_zero : (b : Bool) → ◌≡◌ {A = ℕ} 0 (cond b 0 6) → b ≡ true
is_zero true q = refl
is_zero false q = absurd (omega arith)

not-zero : {k : ℕ} (b : Bool) → suc k ≡ cond b 0 6 → b ≡ false
not-zero true q = absurd (omega arith)
not-zero false q = refl

-- ---- one line

-- the number n says whether the line v is accepted; where it is, t is its answer with 0 in place of the constant
pub record Single (w : ℕ) (v t : List ℕ) (n : ℕ) : Type 0 where
  pub says : n ≡ cond (accepts w (one_line (length v)) v) 0 6
  pub leaves : n ≡ 0 → t ≡ set (answer w (one_line (length v)) v) 0 0

pub cells-line : (size : ℕ) → 0 < size → cells (one_line size) ≡ size
unfolding cells
cells-line zero h = absurd (not-suc-le-zero h)
cells-line (suc n) h = omega arith

-- the settings of a line pass
module _ (w size : ℕ) (fits : fits_width w ≡ true) (long : 2 ≤ size) (short : size ≤ 256) where
  line-settings : settings_number true 1 (fits_width w) (0 ∷ []) (one_line size) ≡ 0
  unfolding limited_number some repeated
  line-settings =
      let c = cells-line size (omega arith) in
      let e : ltb 65536 (cells (one_line size)) ≡ false = le-ltb 65536 (cells (one_line size)) (omega (arith, c)) in
      let d : eqb 0 (pred size) ≡ false = ne_eqb 0 (pred size) (λ q. absurd (omega arith)) in
      rw (fits, d, e)

  module _ (v out : List ℕ) (given : length v ≡ size) (room : length out ≡ size) where
    line_ready : in_out_number true 1 w (0 ∷ []) (one_line size) v out ≡ 0
    unfolding call_number
    line_ready =
        let c = sym (cells-line size (omega arith)) in
        rw (line-settings, eq-eqb (length v) (cells (one_line size)) (given ∙ c), eq-eqb (length out) (cells (one_line size)) (room ∙ c))

    -- so recovery of a line decides by its differences
    pub line-number : recovery_number 1 w (0 ∷ []) (one_line size) v out ≡ cond (accepts w (one_line size) v) 0 6
    unfolding recovery_number
    line-number = ap (λ (n : ℕ). first n (cond (accepts w (one_line size) v) 0 6)) line_ready

    pub line-left : recovery_left 1 w (0 ∷ []) (one_line size) v out
        ≡ cond (accepts w (one_line size) v) (answer w (one_line size) v) (tabulate (cells (one_line size)) (λ n. 0))
    unfolding recovery_left
    line-left =
        ap (λ (n : ℕ). left n (cond (accepts w (one_line size) v) (answer w (one_line size) v) (tabulate (cells (one_line size)) (λ n. 0))) out) line_ready

-- a line after recovery with its highest degree, and then 0 in place of the constant
module _ (w : ℕ) (v out : List ℕ) (fits : fits_width w ≡ true) (long : 2 ≤ length v) (short : length v ≤ 256) (room : length out ≡ length v) where
  degree_eq : (length v - 1) ∷ [] ≡ one_line (length v)
  degree_eq =
      let e : length v - 1 ≡ pred (length v) = omega arith in
      ap (◌∷ []) e

  decides : recovery_number 1 w (0 ∷ []) ((length v - 1) ∷ []) v out ≡ cond (accepts w (one_line (length v)) v) 0 6
  decides =
      ap (λ (ds : List ℕ). recovery_number 1 w (0 ∷ []) ds v out) degree_eq ∙ line-number w (length v) fits long short v out refl room

  pub single_accepted : {t : List ℕ} → 0 ≡ recovery_number 1 w (0 ∷ []) ((length v - 1) ∷ []) v out
      → t ≡ recovery_left 1 w (0 ∷ []) ((length v - 1) ∷ []) v out → Single w v (set t 0 0) 0
  single_accepted {t} e l =
      record {
        says = e ∙ decides;
        leaves = λ q. ap (λ (k : List ℕ). set k 0 0)
            (l
            ∙ ap (λ (ds : List ℕ). recovery_left 1 w (0 ∷ []) ds v out) degree_eq
            ∙ line-left w (length v) fits long short v out refl room
            ∙ ap (λ (b : Bool). cond b (answer w (one_line (length v)) v) (tabulate (cells (one_line (length v))) (λ n. 0))) yes-accepts);
      }
    where
      yes-accepts : accepts w (one_line (length v)) v ≡ true
      yes-accepts = is_zero _ (e ∙ decides)

  -- any number but 0
  pub single_refused : {t : List ℕ} {n k : ℕ} → n ≡ suc k → n ≡ recovery_number 1 w (0 ∷ []) ((length v - 1) ∷ []) v out → Single w v t n
  single_refused {k = k} p e = record { says = e ∙ decides; leaves = λ q. absurd (suc-ne-zero k (sym p ∙ q)) }

-- ---- the lines

-- the answer's entry at a cell
abbrev pub single_at : ℕ → ℕ → List ℕ → ℕ → ℕ
single_at w size v j = cond (eqb (j % size) 0) 0 (at (answer w (one_line size) (line size v (j / size))) (j % size))

-- the lines before the cell `from` are accepted, and t is t₀ with their answers below that cell
pub record Lines (w size : ℕ) (v t₀ t : List ℕ) (from : ℕ) : Type 0 where
  pub count : ℕ
  pub place : from ≡ count * size
  pub passed : (i : ℕ) → i < count → T (accepts w (one_line size) (line size v i))
  pub filled : Filled (single_at w size v) t₀ t from

-- the number r says whether each of the n lines of v is accepted; where they are, t is their answers
pub record Singles (w size n : ℕ) (v t : List ℕ) (r : ℕ) : Type 0 where
  pub says : r ≡ cond (singleton_accepts w size n v) 0 6
  pub leaves : r ≡ 0 → t ≡ singleton_answer w size n v

-- a list with 0 at place 0
at-set-zero : (a : List ℕ) (j : ℕ) → 0 < length a → at (set a 0 0) j ≡ cond (eqb j 0) 0 (at a j)
at-set-zero a zero h = get_or-set_same a 0 0 0 h
at-set-zero a (suc j) h =
    get_or-set_other a 0 (suc j) 0 0 (suc-ne-zero j)
    ∙ ap (λ (b : Bool). cond b 0 (at a (suc j))) (sym (ne_eqb (suc j) 0 (suc-ne-zero j)))

module _ (w size : ℕ) (v t₀ : List ℕ) where
  pub lines_start : Lines w size v t₀ t₀ 0
  lines_start =
      record { count = 0; place = sym (zero-mul size); passed = λ i h. absurd (not-suc-le-zero h); filled = filled_start (single_at w size v) t₀ }

  module _ (t : List ℕ) (from : ℕ) (r : Lines w size v t₀ t from) (long : 0 < size) (fits : from + size ≤ length v) where
    -- the line that is next, as a part of the table
    next_line : part from (from + size) v ≡ line size v r.count
    next_line =
        let e : from + size - from ≡ size = omega arith in
        ap₂ (λ (k a : ℕ). take k (drop a v)) e r.place

    next_long : length (part from (from + size) v) ≡ size
    next_long = length_part from (from + size) v fits ∙ omega arith

    next_accepts : accepts w (one_line (length (part from (from + size) v))) (part from (from + size) v)
        ≡ accepts w (one_line size) (line size v r.count)
    next_accepts = ap₂ (λ (k : ℕ) (l : List ℕ). accepts w (one_line k) l) next_long next_line

    next_answer : answer w (one_line (length (part from (from + size) v))) (part from (from + size) v)
        ≡ answer w (one_line size) (line size v r.count)
    next_answer = ap₂ (λ (k : ℕ) (l : List ℕ). answer w (one_line k) l) next_long next_line

    module _ (ys : List ℕ) where
      -- one line more is accepted
      pub lines_step : length t ≡ length v → Single w (part from (from + size) v) ys 0 → Lines w size v t₀ (put from (from + size) t ys) (from + size)
      unfolding answer
      lines_step same s =
          record {
            count = suc r.count;
            place = ap (◌+ size) r.place ∙ sym (suc-mul r.count size);
            passed = λ i h. passed i (eq-or-lt_of_le (le_of_suc-le-suc h));
            filled = filled_part (single_at w size v) t₀ t from (from + size) ys r.filled (omega arith) (omega arith) (ys-long ∙ omega arith) entry;
          }
        where
          a : List ℕ
          a = answer w (one_line size) (line size v r.count)

          a-long : length a ≡ size
          a-long = length-tabulate (cells (one_line size)) _ ∙ cells-line size long

          ys-eq : ys ≡ set a 0 0
          ys-eq = s.leaves refl ∙ ap (λ (l : List ℕ). set l 0 0) next_answer

          ys-long : length ys ≡ size
          ys-long = ap length ys-eq ∙ length-set a 0 0 ∙ a-long

          passed : (i : ℕ) → (i ≡ r.count) ⊎ (i < r.count) → T (accepts w (one_line size) (line size v i))
          passed i (inl e) = rw e (subst (λ (b : Bool). T b) (sym (is_zero _ s.says) ∙ next_accepts) tt)
          passed i (inr h) = r.passed i h

          entry : (i : ℕ) → i < from + size - from → at ys i ≡ single_at w size v (from + i)
          entry i h =
              let h' : i < size = omega arith in
              let d : (from + i) / size ≡ r.count = ap (λ (k : ℕ). (k + i) / size) r.place ∙ digits_div r.count h' in
              let m : (from + i) % size ≡ i = ap (λ (k : ℕ). (k + i) % size) r.place ∙ digits_mod r.count h' in
              ap (λ (l : List ℕ). at l i) ys-eq
              ∙ at-set-zero a i (omega (arith, a-long))
              ∙ ap₂ (λ (q k : ℕ). cond (eqb k 0) 0 (at (answer w (one_line size) (line size v q)) k)) (sym d) (sym m)

      -- a line is not accepted
      pub lines_fail : {t' : List ℕ} {n : ℕ} → length v ≡ n * size → {a k : ℕ} → a ≡ suc k
          → Single w (part from (from + size) v) ys a → Singles w size n v t' a
      unfolding singleton_accepts
      lines_fail {t'} {n} whole {k = k} q s =
          record {
            says = s.says ∙ ap (λ (b : Bool). cond b 0 6) (no ∙ sym (not-all (every n p) refl));
            leaves = λ e. absurd (suc-ne-zero k (sym q ∙ e));
          }
        where
          no : accepts w (one_line (length (part from (from + size) v))) (part from (from + size) v) ≡ false
          no = not-zero _ (sym q ∙ s.says)

          p : ℕ → Bool
          p i = accepts w (one_line size) (line size v i)

          below : r.count < n
          below = lt_of_mul-lt-mul_right size (omega (arith, r.place))

          not-all : (b : Bool) → every n p ≡ b → b ≡ false
          not-all true e =
              absurd (subst (λ (b : Bool). T b) (sym next_accepts ∙ no) ((every-iff n p).0 (subst (λ (b : Bool). T b) (sym e) tt) r.count below))
          not-all false e = refl

  -- no line is left
  pub lines-done : (t : List ℕ) (from n : ℕ) → Lines w size v t₀ t from → length v - from < size → length v ≡ n * size → length t₀ ≡ length v
      → Singles w size n v t 0
  unfolding singleton_accepts singleton_answer
  lines-done t from n r h whole same =
      record {
        says = sym (ap (λ (b : Bool). cond b 0 6) (all (every n p) refl));
        leaves = λ e. eq-tabulate t (n * size) (single_at w size v) (r.filled.same ∙ same ∙ whole) (λ i l. r.filled.below i (omega (arith, covered)));
      }
    where
      p : ℕ → Bool
      p i = accepts w (one_line size) (line size v i)

      enough : n < suc r.count
      enough = lt_of_mul-lt-mul_right size (omega (arith, r.place, suc-mul r.count size))

      covered : n * size ≤ from
      covered = omega (arith, r.place, mul-le-mul_right size (le_of_suc-le-suc enough))

      all : (b : Bool) → every n p ≡ b → b ≡ true
      all true e = refl
      all false e = absurd (subst (λ (b : Bool). T b) e ((every-iff n p).1 (λ i l. r.passed i (omega (arith, enough)))))

-- ---- the settings

module _ (n w : ℕ) (v out : List ℕ) where
  -- a cause, or none
  pub too_many : 20 < n → singleton_settings n w v out ≡ 2
  unfolding singleton_settings
  too_many h = rw (lt-ltb 20 n h)

  module _ (few : n ≤ 20) where
    pub bad_width : fits_width w ≡ false → singleton_settings n w v out ≡ 3
    unfolding singleton_settings
    bad_width e = rw (le-ltb 20 n few, e)

    module _ (fits : fits_width w ≡ true) where
      lengths : {b : Bool} → (eqb (length v) (n * degree_cap_of w) && eqb (length out) (n * degree_cap_of w)) ≡ b → singleton_settings n w v out ≡ cond b 0 9
      unfolding singleton_settings
      lengths e = rw (le-ltb 20 n few, fits, e)

      pub wrong_given : (length v ≡ n * degree_cap_of w → ⊥) → singleton_settings n w v out ≡ 9
      wrong_given h = lengths {b = false} (rw (ne_eqb (length v) (n * degree_cap_of w) h))

      module _ (given : length v ≡ n * degree_cap_of w) where
        pub wrong_out : (length out ≡ n * degree_cap_of w → ⊥) → singleton_settings n w v out ≡ 9
        wrong_out h = lengths {b = false} (rw (eq-eqb (length v) (n * degree_cap_of w) given, ne_eqb (length out) (n * degree_cap_of w) h))

        pub settings_pass : length out ≡ n * degree_cap_of w → singleton_settings n w v out ≡ 0
        settings_pass h = lengths {b = true} (rw (eq-eqb (length v) (n * degree_cap_of w) given, eq-eqb (length out) (n * degree_cap_of w) h))

  -- what is said and left where there is a cause
  pub settings-number : (k : ℕ) → singleton_settings n w v out ≡ suc k → singleton_number n w v out ≡ suc k
  unfolding singleton_number
  settings-number k e = ap (λ (i : ℕ). first i (cond (singleton_accepts w (degree_cap_of w) n v) 0 6)) e

  pub settings-left : (k : ℕ) → singleton_settings n w v out ≡ suc k → singleton_left n w v out ≡ out
  unfolding singleton_left
  settings-left k e =
      ap
      (λ (i : ℕ). left i
      (cond (singleton_accepts w (degree_cap_of w) n v) (singleton_answer w (degree_cap_of w) n v) (tabulate (n * degree_cap_of w) (λ j. 0)))
      out)
      e

  -- and where there is none
  module _ (none : singleton_settings n w v out ≡ 0) {size : ℕ} (cap : size ≡ degree_cap_of w) {t : List ℕ} where
    pub singles_number : {r : ℕ} → Singles w size n v t r → singleton_number n w v out ≡ r
    unfolding singleton_number
    singles_number s =
        ap (λ (i : ℕ). first i (cond (singleton_accepts w (degree_cap_of w) n v) 0 6)) none
        ∙ ap (λ (k : ℕ). cond (singleton_accepts w k n v) 0 6) (sym cap)
        ∙ sym s.says

    pub singles_left : {r : ℕ} → Singles w size n v t r → singleton_left n w v out ≡ cond (eqb r 0) t (tabulate (n * size) (λ j. 0))
    unfolding singleton_left
    singles_left {r} s =
        ap (λ (i : ℕ). left i (asked (degree_cap_of w)) out) none
        ∙ ap asked (sym cap)
        ∙ go _ refl
      where
        zeros : List ℕ
        zeros = tabulate (n * size) (λ j. 0)

        asked : ℕ → List ℕ
        asked k = cond (singleton_accepts w k n v) (singleton_answer w k n v) (tabulate (n * k) (λ j. 0))

        go : (b : Bool) → singleton_accepts w size n v ≡ b → asked size ≡ cond (eqb r 0) t zeros
        go true q =
            let accepted : r ≡ 0 = s.says ∙ ap (λ (b : Bool). cond b 0 6) q in
            ap (λ (b : Bool). cond b (singleton_answer w size n v) zeros) q
            ∙ sym (s.leaves accepted)
            ∙ sym (ap (λ (k : ℕ). cond (eqb k 0) t zeros) accepted)
        go false q =
            let refused : r ≡ 6 = s.says ∙ ap (λ (b : Bool). cond b 0 6) q in
            ap (λ (b : Bool). cond b (singleton_answer w size n v) zeros) q ∙ sym (ap (λ (k : ℕ). cond (eqb k 0) t zeros) refused)
