-- The moved form: recovery's answer from the values at the moved grid points. At every point it has the old box's value at the moved point, for natural
-- numbers and, through residues, for whole numbers; it is a normal form, and the only one with these values on the grid. All the rest follows from
-- that alone: it depends on the offsets and on the box's values modulo 2^w only; offsets of zero leave the reduced box; two moves are one by the sum of
-- the offsets; moving goes with sums. That the moved values are those of some box is the move of a line, done along each variable (`shifted`), modulo
-- any power 2^l with w at most l: so what the code leaves modulo 2^64, reduced, is the moved form.
use Rattle.std.specs.Prelude.{◌≡◌, ℕ, suc, ◌+◌, ◌*◌, ◌%◌, ◌^◌, ◌≤◌, ◌<◌, List, map, T, ℤ, pos, length, get_or}
use Rattle.std.proofs.Common.{sym, ap, ap₂, ◌∙◌, le_refl, add-zero, arith, pow_pos, mod-eq_of_lt}
use Rattle.meaning.specs.Tables.{tabulate, at}
use Rattle.meaning.specs.Sums.{sum}
use Rattle.meaning.specs.Factorials.{falling}
use Rattle.meaning.specs.Boxes.{cells, digits}
use Rattle.meaning.specs.Values.{value, Agrees, bound, Normal, box_total, box_reduced}
use Rattle.meaning.specs.Integers.{residue}
use Rattle.meaning.specs.Polynomials.{Polynomial, polynomial_at, PolynomialAgrees, box_at}
use Rattle.meaning.specs.Recovery.{accepts, answer}
use Rattle.meaning.specs.Datum.{moved_point, moved_pointℤ, moved_values, moved}
use Rattle.theory.specs.Congruence.{Cong, cong_of_eq, cong_sym, cong_trans, cong_add-left, mod-cong}
use Rattle.theory.specs.Tables.{at-tabulate, tabulate_cong}
use Rattle.theory.specs.Integers.{residue-box_at}
use Rattle.theory.specs.Evaluation.{eval, eval_cong}
use Rattle.theory.specs.Values.{entry, entry-tabulate, value-lt, value_cong_point, value-eq_of_cong}
use Rattle.theory.specs.Widths.{width_cell}
use Rattle.theory.specs.GridRecovery.{box_total_bounded}
use Rattle.theory.specs.Words.{cong_of_pow}
use Rattle.theory.specs.DemandThree.{answer_normal, answer_agrees, accepts_of_agrees, normal_unique, normal_eq_of_values, same_values, value-total, box_reduced_normal, value-box_reduced}
use Rattle.theory.specs.WholeNumbers.{answer-residue, residue-coordinates}
use Rattle.theory.specs.AlongEach.{along_each, eval-along_each}
use Rattle.theory.specs.MovedLines.{moved_line, sum-moved_line}
use Rattle.theory.specs.MovedPoints.{at-moved_point, residue-at, residue-moved_point}

-- ---- a box with the moved values

-- the box moved along each variable, modulo m
unfoldable pub shifted : ℕ → List ℕ → List ℕ → List ℕ → List ℕ
shifted m ds c os = tabulate (cells ds) (λ n. along_each (λ i. moved_line m (at os i)) ds (entry ds c) (digits ds n))

-- in place
pub shifted-eq : (m : ℕ) (ds c os : List ℕ) {t : List ℕ} → length c ≡ cells ds
    → t ≡ tabulate (length c) (λ n. along_each (λ i. moved_line m (at os i)) ds (entry ds c) (digits ds n)) → t ≡ shifted m ds c os
unfolding shifted
shifted-eq m ds c os e h = h ∙ ap (λ (k : ℕ). tabulate k (λ n. along_each (λ i. moved_line m (at os i)) ds (entry ds c) (digits ds n))) e

-- it has the moved values everywhere, at every width up to that of its modulus
pub value_shifted : {w : ℕ} (l : ℕ) → w ≤ l → (ds c os xs : List ℕ) → value (2 ^ w) ds (shifted (2 ^ l) ds c os) xs ≡ value (2 ^ w) ds c (moved_point xs os)
unfolding shifted
value_shifted {w} l h ds c os xs = value-eq_of_cong (2 ^ w) ds (shifted (2 ^ l) ds c os) c xs (moved_point xs os) (cong_of_pow h whole)
  where
    one : (i d : ℕ) (f : ℕ → ℕ)
        → Cong (2 ^ l) (sum (suc d) (λ e. falling (at xs i) e * moved_line (2 ^ l) (at os i) d f e)) (sum (suc d) (λ e. falling (at (moved_point xs os) i) e * f e))
    one i d f = rw (at-moved_point xs os i) (sum-moved_line (pow_pos l) (at os i) (at xs i) d f)

    whole : Cong (2 ^ l) (eval falling ds (entry ds (shifted (2 ^ l) ds c os)) xs) (eval falling ds (entry ds c) (moved_point xs os))
    whole =
        cong_trans
        (eval_cong falling ds xs (λ es u. cong_of_eq (2 ^ l) (entry-tabulate ds (along_each (λ i. moved_line (2 ^ l) (at os i)) ds (entry ds c)) es u)))
        (eval-along_each falling falling (λ i. moved_line (2 ^ l) (at os i)) ds (entry ds c) xs (moved_point xs os) one)

-- ---- the moved form

module _ (w : ℕ) (ds c os : List ℕ) where
  -- a box with the moved values on the grid agrees with their table
  agrees_of_values : (d : List ℕ) → ((n : ℕ) → n < cells ds → value (2 ^ w) ds d (digits ds n) ≡ value (2 ^ w) ds c (moved_point (digits ds n) os))
      → Agrees (2 ^ w) ds d (moved_values (2 ^ w) ds c os)
  unfolding Agrees moved_values
  agrees_of_values d h n p =
      h n p
      ∙ sym (ap (◌% 2 ^ w) (at-tabulate (cells ds) (λ n. value (2 ^ w) ds c (moved_point (digits ds n) os)) n p) ∙ mod-eq_of_lt (value-lt ds c _ (pow_pos w)))

  shifted_agrees : Agrees (2 ^ w) ds (shifted (2 ^ w) ds c os) (moved_values (2 ^ w) ds c os)
  shifted_agrees = agrees_of_values (shifted (2 ^ w) ds c os) (λ n p. value_shifted w (le_refl w) ds c os (digits ds n))

  -- recovery accepts the moved values
  pub moved-accepted : T (accepts w ds (moved_values (2 ^ w) ds c os))
  moved-accepted = accepts_of_agrees w ds (shifted (2 ^ w) ds c os) (moved_values (2 ^ w) ds c os) shifted_agrees

  -- at every point the value is the old one at the moved point
  pub value-moved : (xs : List ℕ) → value (2 ^ w) ds (moved w ds c os) xs ≡ value (2 ^ w) ds c (moved_point xs os)
  unfolding moved
  value-moved xs =
      same_values w ds (answer w ds (moved_values (2 ^ w) ds c os)) (shifted (2 ^ w) ds c os) (moved_values (2 ^ w) ds c os) xs
      (answer_agrees w ds (moved_values (2 ^ w) ds c os) moved-accepted) shifted_agrees
      ∙ value_shifted w (le_refl w) ds c os xs

  -- the value of the box at a moved whole-number point
  pub box_at-moved_point : (bs zs : List ℤ) → ((i : ℕ) → i < length ds → residue (2 ^ w) (get_or bs i (pos 0)) ≡ at os i % 2 ^ w)
      → residue (2 ^ w) (box_at ds c (moved_pointℤ zs bs)) ≡ value (2 ^ w) ds c (moved_point (map (residue (2 ^ w)) zs) os)
  box_at-moved_point bs zs h =
      residue-box_at (pow_pos w) ds c (moved_pointℤ zs bs)
      ∙ sym (value_cong_point (2 ^ w) ds c (moved_point (map r zs) os) (map r (moved_pointℤ zs bs)) same)
    where
      r : ℤ → ℕ
      r = residue (2 ^ w)

      offset : (i : ℕ) → i < length ds → Cong (2 ^ w) (at os i) (at (map r bs) i)
      offset i p =
          cong_sym (cong_trans (cong_of_eq (2 ^ w) (residue-at (2 ^ w) bs i ∙ h i p)) (mod-cong (2 ^ w) (at os i)))

      same : (i : ℕ) → i < length ds → Cong (2 ^ w) (at (moved_point (map r zs) os) i) (at (map r (moved_pointℤ zs bs)) i)
      same i p =
          cong_trans (cong_of_eq (2 ^ w) (at-moved_point (map r zs) os i))
          (cong_trans (cong_add-left (at (map r zs) i) (offset i p)) (cong_sym (residue-moved_point (pow_pos w) zs bs i)))

  -- for whole numbers too: zs any point, bs any offsets that are os modulo 2^w
  pub box_at-moved : (bs zs : List ℤ) → ((i : ℕ) → i < length ds → residue (2 ^ w) (get_or bs i (pos 0)) ≡ at os i % 2 ^ w)
      → residue (2 ^ w) (box_at ds (moved w ds c os) zs) ≡ residue (2 ^ w) (box_at ds c (moved_pointℤ zs bs))
  box_at-moved bs zs h =
      residue-box_at (pow_pos w) ds (moved w ds c os) zs ∙ value-moved (map (residue (2 ^ w)) zs) ∙ sym (box_at-moved_point bs zs h)

  -- it is a normal form
  pub moved_normal : Normal w ds (moved w ds c os)
  unfolding moved
  moved_normal = answer_normal w ds (moved_values (2 ^ w) ds c os)

  -- the only one with the moved values on the grid
  pub moved_unique : (d : List ℕ) → Normal w ds d
      → ((n : ℕ) → n < cells ds → value (2 ^ w) ds d (digits ds n) ≡ value (2 ^ w) ds c (moved_point (digits ds n) os)) → d ≡ moved w ds c os
  unfolding moved
  moved_unique d normal h = normal_unique w ds d (moved_values (2 ^ w) ds c os) normal (agrees_of_values d h)

  -- whatever box has the moved values on the grid, reduced it is the moved form
  pub box_reduced-moved : (t : List ℕ)
      → ((n : ℕ) → n < cells ds → value (2 ^ w) ds t (digits ds n) ≡ value (2 ^ w) ds c (moved_point (digits ds n) os)) → box_reduced (bound w) ds t ≡ moved w ds c os
  box_reduced-moved t h =
      moved_unique (box_reduced (bound w) ds t) (box_reduced_normal w ds t) (λ n p. value-box_reduced w ds t (digits ds n) ∙ h n p)

  -- so is the box moved along each variable modulo 2^l
  pub box_reduced-shifted : (l : ℕ) → w ≤ l → box_reduced (bound w) ds (shifted (2 ^ l) ds c os) ≡ moved w ds c os
  box_reduced-shifted l h = box_reduced-moved (shifted (2 ^ l) ds c os) (λ n p. value_shifted l h ds c os (digits ds n))

  -- offsets of zero leave the reduced box, and so a normal form
  pub moved-zero : ((i : ℕ) → i < length ds → Cong (2 ^ w) (at os i) 0) → moved w ds c os ≡ box_reduced (bound w) ds c
  moved-zero h = sym (box_reduced-moved c (λ n p. value_cong_point (2 ^ w) ds c (digits ds n) (moved_point (digits ds n) os) (same n)))
    where
      same : (n i : ℕ) → i < length ds → Cong (2 ^ w) (at (digits ds n) i) (at (moved_point (digits ds n) os) i)
      same n i p =
          cong_sym
          (cong_trans (cong_of_eq (2 ^ w) (at-moved_point (digits ds n) os i))
          (cong_trans (cong_add-left (at (digits ds n) i) (h i p)) (cong_of_eq (2 ^ w) (add-zero (at (digits ds n) i)))))

  pub moved-zero_normal : Normal w ds c → ((i : ℕ) → i < length ds → Cong (2 ^ w) (at os i) 0) → moved w ds c os ≡ c
  moved-zero_normal normal h =
      moved-zero h ∙ normal_eq_of_values w ds (box_reduced (bound w) ds c) c (box_reduced_normal w ds c) normal (λ n p. value-box_reduced w ds c (digits ds n))

-- a move depends on the box's values at every point only
pub moved_of_values : (w : ℕ) (ds c d os : List ℕ) → ((xs : List ℕ) → value (2 ^ w) ds c xs ≡ value (2 ^ w) ds d xs) → moved w ds c os ≡ moved w ds d os
unfolding moved moved_values
moved_of_values w ds c d os h = ap (answer w ds) (tabulate_cong (cells ds) _ _ (λ n p. h (moved_point (digits ds n) os)))

-- so a box may be reduced first
pub moved-box_reduced : (w : ℕ) (ds c os : List ℕ) → moved w ds (box_reduced (bound w) ds c) os ≡ moved w ds c os
moved-box_reduced w ds c os = moved_of_values w ds (box_reduced (bound w) ds c) c os (value-box_reduced w ds c)

-- moving by os and then by bs is moving by offsets that are their sums modulo 2^w
pub moved-moved : (w : ℕ) (ds c os bs cs : List ℕ) → ((i : ℕ) → i < length ds → Cong (2 ^ w) (at os i + at bs i) (at cs i))
    → moved w ds (moved w ds c os) bs ≡ moved w ds c cs
moved-moved w ds c os bs cs h =
    moved_unique w ds c cs (moved w ds (moved w ds c os) bs) (moved_normal w ds (moved w ds c os) bs)
    (λ n p.
    value-moved w ds (moved w ds c os) bs (digits ds n)
    ∙ value-moved w ds c os (moved_point (digits ds n) bs)
    ∙ value_cong_point (2 ^ w) ds c (moved_point (moved_point (digits ds n) bs) os) (moved_point (digits ds n) cs) (same n))
  where
    same : (n i : ℕ) → i < length ds → Cong (2 ^ w) (at (moved_point (moved_point (digits ds n) bs) os) i) (at (moved_point (digits ds n) cs) i)
    same n i p =
        let x : ℕ = at (digits ds n) i in
        let regroup : x + at bs i + at os i ≡ x + (at os i + at bs i) = omega arith in
        cong_trans (cong_of_eq (2 ^ w) (at-moved_point (moved_point (digits ds n) bs) os i ∙ ap (◌+ at os i) (at-moved_point (digits ds n) bs i) ∙ regroup))
        (cong_trans (cong_add-left x (h i p)) (cong_of_eq (2 ^ w) (sym (at-moved_point (digits ds n) cs i))))

-- the offsets count modulo 2^w
pub moved_cong : (w : ℕ) (ds c os bs : List ℕ) → ((i : ℕ) → i < length ds → Cong (2 ^ w) (at os i) (at bs i)) → moved w ds c os ≡ moved w ds c bs
moved_cong w ds c os bs h =
    moved_unique w ds c bs (moved w ds c os) (moved_normal w ds c os)
    (λ n p. value-moved w ds c os (digits ds n) ∙ value_cong_point (2 ^ w) ds c (moved_point (digits ds n) os) (moved_point (digits ds n) bs) (same n))
  where
    same : (n i : ℕ) → i < length ds → Cong (2 ^ w) (at (moved_point (digits ds n) os) i) (at (moved_point (digits ds n) bs) i)
    same n i p =
        cong_trans (cong_of_eq (2 ^ w) (at-moved_point (digits ds n) os i))
        (cong_trans (cong_add-left (at (digits ds n) i) (h i p)) (cong_of_eq (2 ^ w) (sym (at-moved_point (digits ds n) bs i))))

-- moving goes with sums
pub moved-box_total : (w : ℕ) (ds a b os : List ℕ)
    → box_total (bound w) ds (moved w ds a os) (moved w ds b os) ≡ moved w ds (box_total (bound w) ds a b) os
moved-box_total w ds a b os =
    moved_unique w ds (box_total (bound w) ds a b) os (box_total (bound w) ds (moved w ds a os) (moved w ds b os)) normal
    (λ n p.
    value-total w ds (moved w ds a os) (moved w ds b os) (digits ds n)
    ∙ ap₂ (λ (x y : ℕ). (x + y) % 2 ^ w) (value-moved w ds a os (digits ds n)) (value-moved w ds b os (digits ds n))
    ∙ sym (value-total w ds a b (moved_point (digits ds n) os)))
  where
    normal : Normal w ds (box_total (bound w) ds (moved w ds a os) (moved w ds b os))
    normal = box_total_bounded (pow_pos w) (width_cell w) ds (moved w ds a os) (moved w ds b os)

-- a recovered form, moved, is the form recovered from the moved values of any polynomial that agrees
pub moved-answer : (w : ℕ) (ds v os : List ℕ) (p : Polynomial ds) → PolynomialAgrees (2 ^ w) ds p v
    → moved w ds (answer w ds v) os ≡ answer w ds (tabulate (cells ds) (λ n. residue (2 ^ w) (polynomial_at ds p (map pos (moved_point (digits ds n) os)))))
unfolding moved moved_values
moved-answer w ds v os p agrees =
    ap (answer w ds)
    (tabulate_cong (cells ds) _ _ (λ n q.
    sym (residue-box_at (pow_pos w) ds (answer w ds v) (map pos (moved_point (digits ds n) os))
    ∙ value_cong_point (2 ^ w) ds (answer w ds v) (map (residue (2 ^ w)) (map pos (moved_point (digits ds n) os))) (moved_point (digits ds n) os)
    (λ i l. residue-coordinates (pow_pos w) (moved_point (digits ds n) os) i))
    ∙ answer-residue w ds p v (map pos (moved_point (digits ds n) os)) agrees))
