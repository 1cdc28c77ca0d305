-- Recovery at width w, in the words of its definition: the answer is a normal form; it agrees where it is accepted; it is accepted where some box
-- agrees; the answer is the only normal form that agrees, and every other one disagrees at a grid point; two boxes that agree have the same values
-- everywhere; the value of a sum is the sum of the values; a reduced box is a normal form with the box's values. Each is recovery of tables modulo m with the
-- cells of the width.
use Rattle.std.specs.Prelude.{◌≡◌, ◌↔◌, ℕ, ◌+◌, ◌%◌, ◌^◌, ◌<◌, List, T}
use Rattle.std.proofs.Common.{sym, ◌∙◌, mod-lt, pow_pos}
use Rattle.meaning.specs.Tables.{at}
use Rattle.meaning.specs.Boxes.{cells, digits}
use Rattle.meaning.specs.Values.{value, Agrees, bound, Normal, box_total, box_reduced}
use Rattle.meaning.specs.Recovery.{difference, divides, coefficient, accepts, answer}
use Rattle.theory.specs.Congruence.{Cong, cong_of_eq, cong_trans, mod-cong}
use Rattle.theory.specs.Tables.{length-tabulate, at-tabulate, tabulate_cong}
use Rattle.theory.specs.Every.{every-iff}
use Rattle.theory.specs.Widths.{bound_pos, width_cell, divides-iff, Divided, divides_cases, coefficient-eq}
use Rattle.theory.specs.DifferenceBounds.{difference-lt}
use Rattle.theory.specs.GridRecovery.{DifferencesPass, solutions, solution_at, solutions_bounded, solutions_agree, passes_of_agrees}
use Rattle.theory.specs.GridRecovery.{bounded_unique, agrees_same, bounded_eq_of_values, value_cong_bounds, value-box_total}

-- accepted is that every difference passes
pub accepts-iff : (w : ℕ) (ds v : List ℕ) → T (accepts w ds v) ↔ DifferencesPass (width_cell w) ds v
unfolding accepts difference
accepts-iff w ds v =
    let all = every-iff (cells ds) (λ n. divides w (digits ds n) (difference w ds v n)) in (
      λ t n p. (divides-iff w (digits ds n) (difference w ds v n)).0 (all.0 t n p),
      λ h. all.1 (λ n p. (divides-iff w (digits ds n) (difference w ds v n)).1 (h n p)),
    )

-- which is, at every cell, one of the two cases
pub accepts_cases : (w : ℕ) (ds v : List ℕ)
    → T (accepts w ds v) ↔ ((n : ℕ) → n < cells ds → Divided w (digits ds n) (difference w ds v n))
unfolding accepts
accepts_cases w ds v =
    let all = every-iff (cells ds) (λ n. divides w (digits ds n) (difference w ds v n)) in (
      λ t n p. (divides_cases w (digits ds n) (difference w ds v n) (difference-lt w ds v n)).0 (all.0 t n p),
      λ h. all.1 (λ n p. (divides_cases w (digits ds n) (difference w ds v n) (difference-lt w ds v n)).1 (h n p)),
    )

-- the answer is the table of solutions
pub answer_eq : (w : ℕ) (ds v : List ℕ) → answer w ds v ≡ solutions (width_cell w) ds v
unfolding answer difference
answer_eq w ds v =
    tabulate_cong (cells ds) (λ n. coefficient w (digits ds n) (difference w ds v n)) (solution_at (width_cell w) ds v)
    (λ n p. coefficient-eq w (digits ds n) (difference w ds v n))

module _ (w : ℕ) (ds : List ℕ) where
  -- the answer is a normal form
  pub answer_normal : (v : List ℕ) → Normal w ds (answer w ds v)
  answer_normal v = rw (answer_eq w ds v) (solutions_bounded (pow_pos w) (width_cell w) ds v)

  -- what is accepted agrees
  pub answer_agrees : (v : List ℕ) → T (accepts w ds v) → Agrees (2 ^ w) ds (answer w ds v) v
  answer_agrees v t =
      rw (answer_eq w ds v) (solutions_agree (pow_pos w) (width_cell w) ds v ((accepts-iff w ds v).0 t))

  -- where some box agrees, it is accepted
  pub accepts_of_agrees : (c v : List ℕ) → Agrees (2 ^ w) ds c v → T (accepts w ds v)
  accepts_of_agrees c v a = (accepts-iff w ds v).1 (passes_of_agrees (pow_pos w) (width_cell w) ds c v a)

  -- the answer is the only normal form that agrees
  pub normal_unique : (c v : List ℕ) → Normal w ds c → Agrees (2 ^ w) ds c v → c ≡ answer w ds v
  normal_unique c v b a = bounded_unique (pow_pos w) (width_cell w) ds c v a b ∙ sym (answer_eq w ds v)

  -- normal forms with the same values on the grid are equal
  pub normal_eq_of_values : (c d : List ℕ) → Normal w ds c → Normal w ds d
      → ((n : ℕ) → n < cells ds → value (2 ^ w) ds c (digits ds n) ≡ value (2 ^ w) ds d (digits ds n)) → c ≡ d
  normal_eq_of_values c d a b same = bounded_eq_of_values (pow_pos w) (width_cell w) ds c d a b same

  -- two boxes that agree with the same table have the same values everywhere
  pub same_values : (c d v xs : List ℕ) → Agrees (2 ^ w) ds c v → Agrees (2 ^ w) ds d v → value (2 ^ w) ds c xs ≡ value (2 ^ w) ds d xs
  same_values c d v xs a b = agrees_same (pow_pos w) (width_cell w) ds c v a d xs b

  -- a value depends on each coefficient modulo its bound only
  pub value_cong_normal : (c d xs : List ℕ) → ((n : ℕ) → n < cells ds → Cong (bound w (digits ds n)) (at c n) (at d n))
      → value (2 ^ w) ds c xs ≡ value (2 ^ w) ds d xs
  value_cong_normal c d xs h = value_cong_bounds (pow_pos w) (width_cell w) ds c d xs h

  -- the value of a sum of boxes is the sum of the values
  pub value-total : (c d xs : List ℕ) → value (2 ^ w) ds (box_total (bound w) ds c d) xs ≡ (value (2 ^ w) ds c xs + value (2 ^ w) ds d xs) % 2 ^ w
  value-total c d xs = value-box_total (pow_pos w) (width_cell w) ds c d xs

  -- a box with each coefficient modulo its bound is a normal form with the same values
  pub box_reduced_normal : (c : List ℕ) → Normal w ds (box_reduced (bound w) ds c)
  unfolding box_reduced
  box_reduced_normal c =
      record {
        whole = length-tabulate (cells ds) _;
        below = λ n p. rw (at-tabulate (cells ds) (λ n. at c n % bound w (digits ds n)) n p) (mod-lt (at c n) (bound_pos w (digits ds n)));
      }

  pub value-box_reduced : (c xs : List ℕ) → value (2 ^ w) ds (box_reduced (bound w) ds c) xs ≡ value (2 ^ w) ds c xs
  unfolding box_reduced
  value-box_reduced c xs =
      value_cong_normal (box_reduced (bound w) ds c) c xs
      (λ n p. cong_trans (cong_of_eq _ (at-tabulate (cells ds) (λ n. at c n % bound w (digits ds n)) n p)) (mod-cong (bound w (digits ds n)) (at c n)))
