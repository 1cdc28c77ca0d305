-- The rows of a flat matrix: the search for a pivot, one turn more, and a row less a multiple of another, number by number and as a part of a table.
use Rattle.std.proofs.Common.{◌≡◌, Option, Some, None, IfSome, unwrap_or, lt-ltb, ℕ, zero, suc, ◌+◌, ◌-◌, ◌*◌, ◌%◌, ◌^◌, ◌<◌, ◌≤◌, min, Bool, true, false, cond, eqb, ◌⊎◌, List, ◌++◌, length, get_or, take, drop, set, sym, refl, ap, ◌∙◌, ⊎_elim, zero-le, le_trans, le_refl, le_of_suc-le-suc, le_of_lt, suc-add, eq-or-lt_of_le, ne_of_gt, zero-add, ne_of_lt, add-one, arith, length-set, length-take-le, bit_and, get_or-set_other, get_or-take, get_or-set_same, pow_pos, le-ltb, eq-eqb}
use Rattle.std.proofs.Math.Nat.{min-eq_left}
use Rattle.meaning.specs.Factorials.{twos_of}
use Rattle.theory.specs.Pivots.{Found, Missing, lowest_cases}
use Rattle.std.proofs.Math.ListN.{get_or-append}
use Rattle.std.proofs.Math.Seq.{length_front}
use Rattle.meaning.specs.Tables.{at, tabulate}
use Rattle.meaning.specs.Differences.{minus}
use Rattle.meaning.specs.Elimination.{Lowest, lowest}
use Rattle.theory.specs.Congruence.{cong_of_eq, mod-cong, cong_mul, minus_cong}
use Rattle.theory.specs.Words.{minus_masked, cong_of_pow}
use Rattle.theory.specs.Tables.{length-tabulate, at-tabulate}
use Rattle.theory.specs.Parts.{part, put, length_part, at_part, length-put, at-put-before, at-put-within, at-put-after}
use Rattle.two_adic_solver.specs.Rows.{Subtracted, height_of}

-- ---- the search

-- the first i rows searched: the lowest so far, if there is one, and its twos
pub record Searched (w rows : ℕ) (h : ℕ → ℕ) (found : Option ℕ) (least i : ℕ) : Type 0 where
  pub inside : IfSome found (λ row. row < rows)
  pub row_eq : unwrap_or found rows ≡ (lowest rows w h i).row
  pub least_eq : least ≡ (lowest rows w h i).twos

lowest-le : (none w : ℕ) (h : ℕ → ℕ) (n : ℕ) → (lowest none w h n).twos ≤ w
lowest-le none w h n =
    ⊎_elim (λ (f : Found w h n (lowest none w h n)). le_of_lt f.low)
    (λ (m : Missing none w h n (lowest none w h n)). rw m.twos_eq (le_refl w)) (lowest_cases none w h n)

-- a row that is not lower changes nothing, a lower one is the lowest
lowest-pass : (none w : ℕ) (h : ℕ → ℕ) (n : ℕ) → (lowest none w h n).twos ≤ h n → lowest none w h (suc n) ≡ lowest none w h n
unfolding lowest
lowest-pass none w h n l = ap (λ (x : Bool). cond x (record { row = n; twos = h n }) (lowest none w h n)) (le-ltb (h n) _ l)

lowest_take : (none w : ℕ) (h : ℕ → ℕ) (n : ℕ) → h n < (lowest none w h n).twos → lowest none w h (suc n) ≡ record { row = n; twos = h n }
unfolding lowest
lowest_take none w h n l = ap (λ (x : Bool). cond x (record { row = n; twos = h n }) (lowest none w h n)) (lt-ltb (h n) _ l)

-- once the least is 0 no row is lower
lowest-odd : (none w : ℕ) (h : ℕ → ℕ) (n k : ℕ) → (lowest none w h n).twos ≡ 0 → lowest none w h (k + n) ≡ lowest none w h n
lowest-odd none w h n zero e = ap (lowest none w h) (zero-add n)
lowest-odd none w h n (suc k) e =
    let b = lowest-odd none w h n k e in
    ap (lowest none w h) (suc-add k n) ∙ lowest-pass none w h (k + n) (rw (ap (λ (l : Lowest). l.twos) b ∙ e) zero-le) ∙ b

pub searched_start : (w rows : ℕ) (h : ℕ → ℕ) (least : ℕ) → least ≡ w → Searched w rows h None least 0
unfolding lowest
searched_start w rows h least e = record { inside = tt; row_eq = refl; least_eq = e }

module _ {w rows : ℕ} {h : ℕ → ℕ} {found : Option ℕ} {least i : ℕ} (s : Searched w rows h found least i) where
  -- a row that is not lower is passed over
  passed : least ≤ h i → Searched w rows h found least (i + 1)
  passed l =
      let e : lowest rows w h (i + 1) ≡ lowest rows w h i = ap (lowest rows w h) (add-one i) ∙ lowest-pass rows w h i (rw s.least_eq at l) in
      record { inside = s.inside; row_eq = rw e s.row_eq; least_eq = rw e s.least_eq }

  lower : (t : ℕ) → h i ≡ t → i < rows → t < least → Searched w rows h (Some i) t (i + 1)
  lower t q r l =
      let e : lowest rows w h (i + 1) ≡ record { row = i; twos = h i } =
      ap (lowest rows w h) (add-one i) ∙ lowest_take rows w h i (rw (← q, s.least_eq) at l) in
      record { inside = r; row_eq = rw e refl; least_eq = rw e (sym q) }

  -- the search may end at an odd entry
  pub searched_odd : least ≡ 0 → i ≤ rows → unwrap_or found rows ≡ (lowest rows w h rows).row
  searched_odd e within =
      let whole : rows - i + i ≡ rows = omega arith in
      s.row_eq
      ∙ sym (ap (λ (l : Lowest). l.row) (lowest-odd rows w h i (rows - i) (sym s.least_eq ∙ e)))
      ∙ ap (λ (n : ℕ). (lowest rows w h n).row) whole

height : (w cols c i : ℕ) (mat : List ℕ) (used : List Bool) (b : Bool) → get_or used i false ≡ b
    → height_of w cols mat used c i ≡ cond b w (twos_of w (at mat (i * cols + c)))
unfolding height_of
height w cols c i mat used b e = ap (λ (b : Bool). cond b w (twos_of w (at mat (i * cols + c)))) e

module _ (w rows cols c : ℕ) (mat : List ℕ) (used : List Bool) {found : Option ℕ} {least i : ℕ}
    (s : Searched w rows (height_of w cols mat used c) found least i) where
  -- a used row has the greatest height
  pub searched_used : get_or used i false ≡ true → Searched w rows (height_of w cols mat used c) found least (i + 1)
  searched_used e = passed s (rw (height w cols c i mat used true e, s.least_eq) (lowest-le rows w (height_of w cols mat used c) i))

  -- another as many as its entry has twos
  module _ (free : get_or used i false ≡ false) {t : ℕ} (e : t ≡ twos_of w (at mat (i * cols + c))) where
    pub searched_pass : least ≤ t → Searched w rows (height_of w cols mat used c) found least (i + 1)
    searched_pass l = passed s (rw (height w cols c i mat used false free, ← e) l)

    pub searched_lower : i < rows → t < least → Searched w rows (height_of w cols mat used c) (Some i) t (i + 1)
    searched_lower = lower s t (height w cols c i mat used false free ∙ sym e)

-- ---- a number less a multiple

pub minus_word : (w a b : ℕ) → w ≤ 64 → minus (2 ^ w) a (b % 2 ^ 64) ≡ minus (2 ^ w) a b
minus_word w a b h = minus_cong (pow_pos w) (cong_of_eq (2 ^ w) refl) (cong_of_pow h (mod-cong (2 ^ 64) b))

module _ (a w mask : ℕ) (e : mask ≡ 2 ^ min w 64 - 1) where
  masked : (b : ℕ) → w ≤ 64 → bit_and (minus (2 ^ 64) a b) mask ≡ minus (2 ^ w) a b
  masked b h = ap (bit_and (minus (2 ^ 64) a b)) e ∙ minus_masked a b w ∙ ap (λ (k : ℕ). minus (2 ^ k) a b) (min-eq_left h)

  pub less_masked : (b : ℕ) → w ≤ 64 → bit_and (minus (2 ^ 64) a (b % 2 ^ 64)) mask ≡ minus (2 ^ w) a b
  less_masked b h = masked (b % 2 ^ 64) h ∙ minus_word w a b h

  -- to 32 bits the low halves of both factors have the product
  pub less-low : (q b : ℕ) → w ≤ 32 → bit_and (minus (2 ^ 64) a (q % 4294967296 * (b % 4294967296))) mask ≡ minus (2 ^ w) a (q * b)
  less-low q b h =
      masked (q % 4294967296 * (b % 4294967296)) (le_trans h (omega arith))
      ∙ minus_cong (pow_pos w) (cong_of_eq (2 ^ w) refl) (cong_of_pow h (cong_mul (mod-cong (2 ^ 32) q) (mod-cong (2 ^ 32) b)))

-- ---- a row less a multiple of another

module _ (m q d : ℕ) (src : ℕ → ℕ) (t₀ : List ℕ) where
  -- one number more
  pub subtracted_step : (t : List ℕ) (k v : ℕ) → Subtracted m q d k src t₀ t → d + k < length t → v ≡ minus m (at t (d + k)) (q * src k)
      → Subtracted m q d (k + 1) src t₀ (set t (d + k) v)
  subtracted_step t k v r fits e =
      record {
        same = length-set t (d + k) v ∙ r.same;
        inside = λ j p. inside j (eq-or-lt_of_le (le_of_suc-le-suc (rw (add-one k) at p)));
        before = λ j p. get_or-set_other t (d + k) j v 0 (ne_of_lt (omega arith)) ∙ r.before j p;
        after = λ j p. get_or-set_other t (d + k) j v 0 (ne_of_gt (omega arith)) ∙ r.after j (omega arith);
      }
    where
      here : at (set t (d + k) v) (d + k) ≡ minus m (at t₀ (d + k)) (q * src k)
      here = get_or-set_same t (d + k) v 0 fits ∙ e ∙ ap (λ (a : ℕ). minus m a (q * src k)) (r.after (d + k) (le_refl (d + k)))

      inside : (j : ℕ) → (j ≡ k) ⊎ (j < k) → at (set t (d + k) v) (d + j) ≡ minus m (at t₀ (d + j)) (q * src j)
      inside j o =
          ⊎_elim (λ (p : j ≡ k). rw p here)
          (λ (p : j < k). get_or-set_other t (d + k) (d + j) v 0 (ne_of_lt (omega arith)) ∙ r.inside j p) o

-- done in a lent part of a table, which then takes the part's place
pub subtracted_part : (m q d n : ℕ) (src t ys : List ℕ) → d + n ≤ length t
    → ys ≡ tabulate (length (part d (d + n) t)) (λ k. minus m (at (part d (d + n) t) k) (q * at src k))
    → Subtracted m q d n (at src) t (put d (d + n) t ys)
subtracted_part m q d n src t ys fits e =
    record {
      same = length-put d (d + n) t fits order ys whole;
      inside =
          λ k p.
          at-put-within d (d + n) t fits order ys whole k (within k p)
          ∙ ap (λ (y : List ℕ). at y k) e
          ∙ at-tabulate _ _ k (rw size (within k p))
          ∙ ap (λ (x : ℕ). minus m x (q * at src k)) (at_part d (d + n) t fits k (within k p));
      before = at-put-before d (d + n) t fits order ys whole;
      after = at-put-after d (d + n) t fits order ys whole;
    }
  where
    order : d ≤ d + n
    order = omega arith

    size : length (part d (d + n) t) ≡ d + n - d
    size = length_part d (d + n) t fits

    whole : length ys ≡ d + n - d
    whole = ap length e ∙ length-tabulate _ _ ∙ size

    within : (k : ℕ) → k < n → k < d + n - d
    within k p = omega arith

-- ---- up to the last number that is not 0

-- a part of a table that is 0 from its place n on
pub span_zeros : (a e n : ℕ) (t : List ℕ) → e ≤ length t → ((j : ℕ) → n ≤ j → at (part a e t) j ≡ 0) → (j : ℕ) → a + n ≤ j → j < e → at t j ≡ 0
span_zeros a e n t fits zeros j l m =
    let back : a + (j - a) ≡ j = omega arith in
    sym (at_part a e t fits (j - a) (omega arith) ∙ ap (at t) back) ∙ zeros (j - a) (omega arith)

-- n numbers copied to the start of a room, which stays as long as it was
module _ (a e n : ℕ) (t u ys : List ℕ) (end : a + n ≡ e) (fits : e ≤ length t) (room : n ≤ length u)
    (c : ys ≡ cond (eqb (length (part a e t)) (length (take n u))) (part a e t) (take n u)) where
  part_length : length (part a e t) ≡ n
  part_length = length_part a e t fits ∙ omega arith

  whole_part : ys ≡ part a e t
  whole_part = c ∙ ap (λ (b : Bool). cond b (part a e t) (take n u)) (eq-eqb _ _ (part_length ∙ sym (length-take-le n u room)))

  pub copied_same : length (ys ++ drop n u) ≡ length u
  copied_same = length_front u ys n (ap length whole_part ∙ part_length ∙ sym (length-take-le n u room))

  pub copied_length : length (take n (ys ++ drop n u)) ≡ n
  copied_length = length-take-le n (ys ++ drop n u) (rw copied_same room)

  pub copied_part : (k : ℕ) → k < n → at (take n (ys ++ drop n u)) k ≡ at t (a + k)
  copied_part k p =
      get_or-take n (ys ++ drop n u) k 0 p
      ∙ get_or-append ys (drop n u) 0 k (rw (ap length whole_part ∙ part_length) p)
      ∙ ap (λ (y : List ℕ). at y k) whole_part
      ∙ at_part a e t fits k (omega arith)
