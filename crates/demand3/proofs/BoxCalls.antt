-- The calls on boxes keep their promises: each follows from the equations of the call's contract.
use Rattle.std.specs.Prelude.{◌≡◌, refl, ◌⊎◌, ◌↔◌, Bool, ◌&&◌, ℕ, zero, suc, ◌+◌, ◌%◌, ◌^◌, ◌<◌, ltb, eqb, ℤ, true, false, List, [], ◌∷◌, map, pos, length}
use Rattle.std.proofs.Common.{sym, ap, ap₂, ◌∙◌, inl, inr, mod-lt, ltb-true, lt-ltb, pow_pos}
use Rattle.std.proofs.Math.Nat.{zero-mod}
use Rattle.meaning.specs.Tables.{at}
use Rattle.meaning.specs.Boxes.{cells, digits}
use Rattle.meaning.specs.Values.{value, bound, Normal, box_total, box_reduced}
use Rattle.meaning.specs.Integers.{residue}
use Rattle.meaning.specs.Conversions.{falling_box, power_box, normal_box}
use Rattle.meaning.specs.Recovery.{every}
use Rattle.meaning.specs.Replies.{Reply}
use Rattle.meaning.specs.Settings.{fits_width, call_number}
use Rattle.meaning.specs.Calls.{reply, left, truth, valid_reply, value_reply, in_out_number, sum_number, sum_left, reduce_number, reduce_left, convert_left, move_number, move_left}
use Rattle.meaning.specs.Datum.{moved_point, moved}
use Rattle.theory.specs.AcceptedCalls.{number-reply}
use Rattle.theory.specs.Congruence.{Cong, cong_of_eq, cong_sym, cong_trans, cong_add_right, mod-cong}
use Rattle.theory.specs.Every.{true-iff, every-iff}
use Rattle.theory.specs.Tables.{length-tabulate, at-tabulate}
use Rattle.theory.specs.Integers.{residue-box_at}
use Rattle.theory.specs.Values.{value_cong_point}
use Rattle.theory.specs.DemandThree.{value-total, box_reduced_normal, value-box_reduced}
use Rattle.theory.specs.WholeNumbers.{residue-coordinates}
use Rattle.theory.specs.MovedPoints.{residue-at, at-moved_point}
use Rattle.theory.specs.Moved.{box_at-moved, box_at-moved_point, moved_normal, moved_unique, moved-zero_normal}
use Rattle.theory.specs.ConversionLaws.{value-falling_box, eval-power_box, falling_box_bounded, power_box_bounded}
use Rattle.theory.specs.Widths.{bound_pos}
use Rattle.demand3.specs.Words.{box_value_of, PointOf, NormalForm, SumOf}
use Rattle.demand3.specs.Tests.{and_true, false-true, suc-zero}
use Rattle.demand3.specs.Settings.{WidthFits, Lengths, CallPasses, exactly}
use Rattle.demand3.proofs.Recovered.{call_iff}
use Rattle.demand3.specs.Promises.{Valued, Summed, Reduced, DatumMoved, Judged, ToFalling, ToPowers, Normalised}
use Rattle.demand3.specs.SameWords.{normal_iff}
use Rattle.demand3.specs.Recovery.{value-eq}
use Rattle.demand3.specs.Coefficients.{value_coefficients}
use Rattle.demand3.proofs.NormalForms.{normal_box_of, normal_form_unique}

-- ---- replies

reply-value : (n v : ℕ) → n ≡ 0 → (reply n v).value ≡ v
reply-value n v e = rw e refl

-- a number that is the cause is 0 where the cause is
accepted-iff : {C : Type 0} {cause number : ℕ} → (cause ≡ 0) ↔ C → number ≡ cause → (number ≡ 0) ↔ C
accepted-iff conditions e = (λ z. conditions.0 (sym e ∙ z), λ c. e ∙ conditions.1 c)

-- ---- the value

value-at : (w : ℕ) (ds c xs : List ℕ) (zs : List ℤ) → PointOf w ds xs zs → value (2 ^ w) ds c xs ≡ box_value_of w ds c zs
value-at w ds c xs zs h =
    value_cong_point (2 ^ w) ds c xs (map (residue (2 ^ w)) zs)
    (λ i l. cong_trans (cong_sym (mod-cong (2 ^ w) (at xs i))) (cong_of_eq (2 ^ w) (sym (h i l) ∙ sym (residue-at (2 ^ w) zs i))))
    ∙ sym (residue-box_at (pow_pos w) ds c zs)

-- whatever the causes of refusal are
pub valued : {C : Type 0} (w : ℕ) (ds c xs : List ℕ) (cause : ℕ) → (cause ≡ 0) ↔ C → {answer : Reply}
    → answer ≡ reply cause (value (2 ^ w) ds c xs) → Valued C w ds c xs answer
valued w ds c xs cause conditions e =
    let n = ap (λ (r : Reply). r.number) e ∙ number-reply cause (value (2 ^ w) ds c xs) in
    record {
      accepted = accepted-iff conditions n;
      values = λ z zs h. ap (λ (r : Reply). r.value) e ∙ reply-value cause _ (sym n ∙ z) ∙ value-at w ds c xs zs h;
    }

-- ---- boxes

total_normal : (w : ℕ) (ds a b : List ℕ) → Normal w ds (box_total (bound w) ds a b)
unfolding box_total
total_normal w ds a b =
    record {
      whole = length-tabulate (cells ds) _;
      below = λ n l. rw (at-tabulate (cells ds) _ n l) (mod-lt (at a n + at b n) (bound_pos w (digits ds n)));
    }

total-sum : (w : ℕ) (ds a b : List ℕ) → SumOf w ds a b (box_total (bound w) ds a b)
total-sum w ds a b =
    record {
      normal = (normal_iff w ds (box_total (bound w) ds a b)).0 (total_normal w ds a b);
      values = λ zs.
          residue-box_at (pow_pos w) ds (box_total (bound w) ds a b) zs
          ∙ value-total w ds a b (map (residue (2 ^ w)) zs)
          ∙ sym (ap₂ (λ (x y : ℕ). (x + y) % 2 ^ w) (residue-box_at (pow_pos w) ds a zs) (residue-box_at (pow_pos w) ds b zs));
    }

reduced_value : (w : ℕ) (ds c : List ℕ) (zs : List ℤ) → box_value_of w ds (box_reduced (bound w) ds c) zs ≡ box_value_of w ds c zs
reduced_value w ds c zs =
    residue-box_at (pow_pos w) ds (box_reduced (bound w) ds c) zs
    ∙ value-box_reduced w ds c (map (residue (2 ^ w)) zs)
    ∙ sym (residue-box_at (pow_pos w) ds c zs)

-- ---- settings and lengths

module _ (total w : ℕ) (support ds : List ℕ) where
  -- a call that asks a width that fits, and allows degree 0
  abbrev Passes : (ℕ → Lengths) → Type 0
  Passes = CallPasses 65536 false total (fits_width w) support ds

  passing : (tables : ℕ → Lengths) {number : ℕ} → number ≡ call_number false total (fits_width w) support ds (exactly true (tables (cells ds)))
      → (number ≡ 0) ↔ Passes tables
  passing tables = accepted-iff (call_iff false total (fits_width w) support ds tables)

  -- the value on tables of numbers
  pub table_valued : (c xs : List ℕ) {answer : Reply} → answer ≡ value_reply total w support ds c xs
      → Valued (Passes (λ n. (c, n) ∷ (xs, length support) ∷ [])) w ds c xs answer
  unfolding value_reply
  table_valued c xs e = valued w ds c xs _ (passing (λ n. (c, n) ∷ (xs, length support) ∷ []) refl) e

  -- the sum
  pub summed : (a b out : List ℕ) {number : ℕ} {after : List ℕ} → number ≡ sum_number total w support ds a b out
      → after ≡ sum_left total w support ds a b out → Summed (Passes (λ n. (a, n) ∷ (b, n) ∷ (out, n) ∷ [])) w ds a b number after
  unfolding sum_number sum_left
  summed a b out e f =
      record {
        accepted = passing (λ n. (a, n) ∷ (b, n) ∷ (out, n) ∷ []) e;
        sum = λ z. rw (f ∙ ap (λ (k : ℕ). left k (box_total (bound w) ds a b) out) (sym e ∙ z)) (total-sum w ds a b);
      }

  -- reduction in place
  pub reduced : (c : List ℕ) {number : ℕ} {after : List ℕ} → number ≡ reduce_number total w support ds c → after ≡ reduce_left total w support ds c
      → Reduced (Passes (λ n. (c, n) ∷ [])) w ds c number after
  unfolding reduce_number reduce_left
  reduced c {number} {after} e f =
      record {
        accepted = passing (λ n. (c, n) ∷ []) e;
        normal = λ z. rw (after_0 z) ((normal_iff w ds (box_reduced (bound w) ds c)).0 (box_reduced_normal w ds c));
        values = λ z zs. rw (after_0 z) (reduced_value w ds c zs);
      }
    where
      after_0 : number ≡ 0 → after ≡ box_reduced (bound w) ds c
      after_0 z = f ∙ ap (λ (k : ℕ). left k (box_reduced (bound w) ds c) c) (sym e ∙ z)

  -- ---- the datum

  module _ (c os out : List ℕ) {number : ℕ} {after : List ℕ} (e : number ≡ move_number total w support ds c os out)
      (f : after ≡ move_left total w support ds c os out) where
    -- what is left after 0
    pub after_move : number ≡ 0 → after ≡ moved w ds c os
    unfolding move_left
    after_move z = f ∙ ap (λ (k : ℕ). left k (moved w ds c os) out) (sym e ∙ z)

    pub datum_moved : DatumMoved (Passes (λ n. (c, n) ∷ (os, length support) ∷ (out, n) ∷ [])) w ds c os number after
    unfolding move_number
    datum_moved =
        record {
          accepted = passing (λ n. (c, n) ∷ (os, length support) ∷ (out, n) ∷ []) e;
          normal = λ z. rw (after_move z) ((normal_iff w ds (moved w ds c os)).0 (moved_normal w ds c os));
          values = λ z bs zs h. rw (after_move z) (box_at-moved w ds c os bs zs h);
          only = λ z bs h d n same.
              moved_unique w ds c os d ((normal_iff w ds d).1 n) (λ k l.
              sym (value-eq w ds d (digits ds k))
              ∙ same k l
              ∙ box_at-moved_point w ds c os bs (map pos (digits ds k)) h
              ∙ value_cong_point (2 ^ w) ds c _ _ (moved-coordinates (digits ds k)))
              ∙ sym (after_move z);
          still = λ z h n. after_move z ∙ moved-zero_normal w ds c os ((normal_iff w ds c).1 n) (λ i l. record { same = h i l ∙ sym (zero-mod (2 ^ w)) });
        }
      where
        moved-coordinates : (xs : List ℕ) (i : ℕ) → i < length ds
            → Cong (2 ^ w) (at (moved_point (map (residue (2 ^ w)) (map pos xs)) os) i) (at (moved_point xs os) i)
        moved-coordinates xs i l =
            cong_trans (cong_of_eq (2 ^ w) (at-moved_point (map (residue (2 ^ w)) (map pos xs)) os i))
            (cong_trans (cong_add_right (at os i) (residue-coordinates (pow_pos w) xs i)) (cong_of_eq (2 ^ w) (sym (at-moved_point xs os i))))

  -- ---- conversions

  -- a table in and a table out
  abbrev Converts : List ℕ → List ℕ → Type 0
  Converts c out = Passes (λ n. (c, n) ∷ (out, n) ∷ [])

  module _ (c out : List ℕ) {number : ℕ} {after : List ℕ} (e : number ≡ in_out_number false total w support ds c out) where
    -- what is left after 0
    after_0 : (box : List ℕ) → after ≡ convert_left total w support ds c out box → number ≡ 0 → after ≡ box
    unfolding convert_left
    after_0 box f z = f ∙ ap (λ (k : ℕ). left k box out) (sym e ∙ z)

    pub to_falling_lem : after ≡ convert_left total w support ds c out (falling_box (2 ^ w) ds c) → ToFalling (Converts c out) w ds c number after
    to_falling_lem f =
        record {
          accepted = passing (λ n. (c, n) ∷ (out, n) ∷ []) e;
          whole = λ z. rw (after_0 _ f z) (falling_box_bounded (pow_pos w) ds c).whole;
          below = λ z. rw (after_0 _ f z) (falling_box_bounded (pow_pos w) ds c).below;
          values = λ z p h zs.
              rw (after_0 _ f z) (
              residue-box_at (pow_pos w) ds (falling_box (2 ^ w) ds c) zs
              ∙ value-falling_box (2 ^ w) ds c (map (residue (2 ^ w)) zs)
              ∙ sym (value_coefficients w ds p c h zs)
              );
        }

    pub to_powers_lem : after ≡ convert_left total w support ds c out (power_box (2 ^ w) ds c) → ToPowers (Converts c out) w ds c number after
    to_powers_lem f =
        record {
          accepted = passing (λ n. (c, n) ∷ (out, n) ∷ []) e;
          whole = λ z. rw (after_0 _ f z) (power_box_bounded (pow_pos w) ds c).whole;
          below = λ z. rw (after_0 _ f z) (power_box_bounded (pow_pos w) ds c).below;
          values = λ z p h zs.
              value_coefficients w ds p (power_box (2 ^ w) ds c) (rw (sym (after_0 _ f z)) h) zs
              ∙ eval-power_box (2 ^ w) ds c (map (residue (2 ^ w)) zs) (pow_pos w)
              ∙ sym (residue-box_at (pow_pos w) ds c zs);
        }

    -- the normal form
    pub normalised : after ≡ convert_left total w support ds c out (normal_box w ds c) → Normalised (Converts c out) w ds c number after
    normalised f =
        record {
          accepted = passing (λ n. (c, n) ∷ (out, n) ∷ []) e;
          form = λ z p h. rw (after_0 _ f z) (normal_box_of w ds p c h);
          only = λ z p h d n. normal_form_unique w ds p d (normal_box w ds c) n (normal_box_of w ds p c h) ∙ sym (after_0 _ f z);
        }

-- ---- yes or no

truth-iff : (b : Bool) → (truth b ≡ 1) ↔ (b ≡ true)
truth-iff true = (λ e. refl, λ e. refl)
truth-iff false = (λ e. suc-zero 0 (sym e), λ e. false-true (sym e))

-- whatever the causes of refusal are, and whatever it is that the test tells
pub yes_or_no : {C P : Type 0} (cause : ℕ) (test : Bool) → (cause ≡ 0) ↔ C → (C → (test ≡ true) ↔ P) → {answer : Reply} → answer ≡ reply cause (truth test)
    → ((answer.number ≡ 0) ↔ C) × ((answer.value ≡ 0) ⊎ (answer.value ≡ 1)) × (answer.number ≡ 0 → (answer.value ≡ 1) ↔ P)
yes_or_no cause test conditions tells e =
    let n = ap (λ (r : Reply). r.number) e ∙ number-reply cause (truth test) in (
      accepted-iff conditions n,
      rw e (either cause test),
      λ z.
          let v = ap (λ (r : Reply). r.value) e ∙ reply-value cause (truth test) (sym n ∙ z) in
          let i = tells (conditions.0 (sym n ∙ z)) in
          (λ y. i.0 ((truth-iff test).0 (sym v ∙ y)), λ s. v ∙ (truth-iff test).1 (i.1 s)),
    )
  where
    either : (k : ℕ) (b : Bool) → ((reply k (truth b)).value ≡ 0) ⊎ ((reply k (truth b)).value ≡ 1)
    either zero true = inr refl
    either zero false = inl refl
    either (suc k) b = inl refl

-- ---- validity

module _ (w : ℕ) (ds c : List ℕ) where
  -- the test passes exactly for a normal form at a width that fits
  test_iff : length c ≡ cells ds
      → (fits_width w && every (cells ds) (λ n. ltb (at c n) (bound w (digits ds n))) ≡ true) ↔ (WidthFits w × NormalForm w ds c)
  test_iff whole =
      let both = and_true (fits_width w) (every (cells ds) (λ n. ltb (at c n) (bound w (digits ds n)))) in
      let all = every-iff (cells ds) (λ n. ltb (at c n) (bound w (digits ds n))) in (
        λ e.
            let s = both.0 e in (
              s.0,
              (normal_iff w ds c).0 (record { whole = whole; below = λ n l. ltb-true _ _ ((true-iff _).1 (all.0 ((true-iff _).0 s.1) n l)) }),
            ),
        λ s. both.1 (s.0, (true-iff _).1 (all.1 (λ n l. (true-iff _).0 (lt-ltb _ _ (((normal_iff w ds c).1 s.1).below n l))))),
      )

  pub judged : (total : ℕ) (support : List ℕ) {answer : Reply} → answer ≡ valid_reply total w support ds c
      → Judged (CallPasses 65536 false total true support ds (λ n. (c, n) ∷ [])) w ds c answer
  unfolding valid_reply
  judged total support e =
      let passes = call_iff false total true support ds (λ n. (c, n) ∷ []) in
      let told = yes_or_no (call_number false total true support ds (eqb (length c) (cells ds))) _ passes (λ p. test_iff p.lengths.0) e in
      record { accepted = told.0; either = told.1; yes = told.2 }
