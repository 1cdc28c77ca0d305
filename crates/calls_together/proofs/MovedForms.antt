-- What follows from moves beside other calls: an accepted one leaves the moved form, of which the laws speak.
use Rattle.std.proofs.Common.{◌≡◌, sym, ap, ap₂, ◌∙◌, Bool, true, false, cond, ℕ, ◌+◌, ◌%◌, ◌^◌, ◌<◌, List, [], ◌∷◌, map, ℤ, pos, length}
use Rattle.std.proofs.Math.Nat.{zero-mod}
use Rattle.meaning.specs.Tables.{at}
use Rattle.meaning.specs.Boxes.{cells, digits}
use Rattle.meaning.specs.Values.{Agrees, bound, box_total, box_reduced}
use Rattle.meaning.specs.Recovery.{accepts}
use Rattle.meaning.specs.Datum.{moved_pointℤ, moved}
use Rattle.meaning.specs.Polynomials.{Term}
use Rattle.meaning.specs.Settings.{fits_width, first}
use Rattle.meaning.specs.Calls.{left, in_out_number, sum_number, sum_left, reduce_number, reduce_left, move_number, move_left, recovery_number}
use Rattle.theory.specs.Every.{true-iff}
use Rattle.theory.specs.DemandThree.{accepts_of_agrees}
use Rattle.theory.specs.Moved.{moved-moved, moved-zero, moved-box_total}
use Rattle.demand3.specs.Words.{polynomial_value, PointOf, Agreeing, BoxOnGrid}
use Rattle.demand3.specs.Settings.{CallPasses}
use Rattle.demand3.proofs.Recovered.{call_iff}
use Rattle.demand3.specs.Promises.{Decides, DatumMoved}
use Rattle.demand3.specs.Recovery.{value-eq}
use Rattle.demand3.proofs.BoxCalls.{after_move}
use Rattle.calls_together.proofs.Together.{Recovers, passed, passes_with}

-- calls under the same settings, with their numbers and what they leave
module _ (total w : ℕ) (support ds : List ℕ) where
  abbrev Moves : List ℕ → List ℕ → List ℕ → ℕ → List ℕ → Type 0
  Moves c os out n after = (n ≡ move_number total w support ds c os out) × (after ≡ move_left total w support ds c os out)

  abbrev Sums : List ℕ → List ℕ → List ℕ → ℕ → List ℕ → Type 0
  Sums a b out n after = (n ≡ sum_number total w support ds a b out) × (after ≡ sum_left total w support ds a b out)

  abbrev Reduces : List ℕ → ℕ → List ℕ → Type 0
  Reduces c n after = (n ≡ reduce_number total w support ds c) × (after ≡ reduce_left total w support ds c)

  -- what those leave that are accepted
  moved_to : (c os out : List ℕ) {n : ℕ} {after : List ℕ} → Moves c os out n after → n ≡ 0 → after ≡ moved w ds c os
  moved_to c os out m z = after_move total w support ds c os out m.0 m.1 z

  summed : (a b out : List ℕ) {n : ℕ} {after : List ℕ} → Sums a b out n after → n ≡ 0 → after ≡ box_total (bound w) ds a b
  unfolding sum_left
  summed a b out m z = m.1 ∙ ap (λ (k : ℕ). left k (box_total (bound w) ds a b) out) (sym m.0 ∙ z)

  reduced : (c : List ℕ) {n : ℕ} {after : List ℕ} → Reduces c n after → n ≡ 0 → after ≡ box_reduced (bound w) ds c
  unfolding reduce_left
  reduced c m z = m.1 ∙ ap (λ (k : ℕ). left k (box_reduced (bound w) ds c) c) (sym m.0 ∙ z)

  -- moves one after the other
  pub twice_follows : (c a b sums x y z : List ℕ) {once twice both : List ℕ} {n₁ n₂ n₃ : ℕ}
      → Moves c a x n₁ once → Moves once b y n₂ twice → Moves c sums z n₃ both → length ds ≡ length support → n₁ ≡ 0 → n₂ ≡ 0 → n₃ ≡ 0
      → ((i : ℕ) → i < length support → at sums i % 2 ^ w ≡ (at a i + at b i) % 2 ^ w) → twice ≡ both
  twice_follows c a b sums x y z {once} m₁ m₂ m₃ long z₁ z₂ z₃ h =
      moved_to once b y m₂ z₂
      ∙ ap (λ (t : List ℕ). moved w ds t b) (moved_to c a x m₁ z₁)
      ∙ moved-moved w ds c a b sums (λ i l. record { same = sym (h i (rw long at l)) })
      ∙ sym (moved_to c sums z m₃ z₃)

  -- a move by nothing
  pub still_follows : (c os x copy : List ℕ) {out after : List ℕ} {n k : ℕ}
      → Moves c os x n out → Reduces copy k after → length ds ≡ length support → copy ≡ c → n ≡ 0 → k ≡ 0
      → ((i : ℕ) → i < length support → at os i % 2 ^ w ≡ 0) → out ≡ after
  still_follows c os x copy m r long same z z' h =
      moved_to c os x m z
      ∙ moved-zero w ds c os (λ i l. record { same = h i (rw long at l) ∙ sym (zero-mod (2 ^ w)) })
      ∙ ap (box_reduced (bound w) ds) (sym same)
      ∙ sym (reduced copy r z')

  -- moves of two forms and of their sum
  pub sum-moved-follows : (a b os o₁ o₂ o₃ o₄ o₅ : List ℕ) {x y t u v : List ℕ} {n₁ n₂ n₃ n₄ n₅ : ℕ}
      → Moves a os o₁ n₁ x → Moves b os o₂ n₂ y → Sums x y o₃ n₃ t → Sums a b o₄ n₄ u → Moves u os o₅ n₅ v
      → n₁ ≡ 0 → n₂ ≡ 0 → n₃ ≡ 0 → n₄ ≡ 0 → n₅ ≡ 0 → t ≡ v
  sum-moved-follows a b os o₁ o₂ o₃ o₄ o₅ {x} {y} {t} {u} m₁ m₂ m₃ m₄ m₅ z₁ z₂ z₃ z₄ z₅ =
      summed x y o₃ m₃ z₃
      ∙ ap₂ (box_total (bound w) ds) (moved_to a os o₁ m₁ z₁) (moved_to b os o₂ m₂ z₂)
      ∙ moved-box_total w ds a b os
      ∙ ap (λ (t : List ℕ). moved w ds t os) (sym (summed a b o₄ m₄ z₄))
      ∙ sym (moved_to u os o₅ m₅ z₅)

-- what recovery left, moved, beside the recovery of the moved values
pub recovered_follows : {total w : ℕ} {support ds v u os out₁ c m r : List ℕ} (out₂ out₃ : List ℕ) {n₁ n₂ n₃ : ℕ}
    → Decides (Recovers total w support ds v out₁) w ds v n₁ c
    → DatumMoved (CallPasses 65536 false total (fits_width w) support ds (λ n. (c, n) ∷ (os, length support) ∷ (out₂, n) ∷ [])) w ds c os n₂ m
    → n₃ ≡ recovery_number total w support ds u out₃
    → Decides (Recovers total w support ds u out₃) w ds u n₃ r
    → n₁ ≡ 0 → length os ≡ length support → length out₂ ≡ cells ds → length u ≡ cells ds → length out₃ ≡ cells ds
    → (p : List Term) → Agreeing w ds v p → (bs : List ℤ) → PointOf w ds os bs
    → ((n : ℕ) → n < cells ds → polynomial_value w ds p (moved_pointℤ (map pos (digits ds n)) bs) ≡ at u n % 2 ^ w)
    → (n₂ ≡ 0) × (n₃ ≡ 0) × (m ≡ r)
unfolding recovery_number Agrees
recovered_follows {total} {w} {support} {ds} {v} {u} {os} {out₁} {m = m} out₂ out₃ {n₂ = n₂} {n₃ = n₃} start move said third z₁ long₁ long₂ long₃ long₄ p a bs
    h readings =
    (z₂, z₃, third.only z₃ m (move.normal z₂) on_grid)
  where
    conditions : Recovers total w support ds v out₁
    conditions = passed start z₁

    z₂ : n₂ ≡ 0
    z₂ = move.accepted.1 (passes_with conditions conditions.width ((start.normal z₁).whole, (long₁, (long₂, tt))))

    on_grid : BoxOnGrid w ds u m
    on_grid n l = move.values z₂ bs (map pos (digits ds n)) h ∙ start.values z₁ p a (moved_pointℤ (map pos (digits ds n)) bs) ∙ readings n l

    agrees : Agrees (2 ^ w) ds m u
    agrees n l = sym (value-eq w ds m (digits ds n)) ∙ on_grid n l

    settings : in_out_number true total w support ds u out₃ ≡ 0
    settings =
        (call_iff true total (fits_width w) support ds (λ n. (u, n) ∷ (out₃, n) ∷ [])).1
        (passes_with conditions conditions.width (long₃, (long₄, tt)))

    taken : accepts w ds u ≡ true
    taken = (true-iff (accepts w ds u)).1 (accepts_of_agrees w ds m u agrees)

    z₃ : n₃ ≡ 0
    z₃ = said ∙ ap₂ (λ (k : ℕ) (b : Bool). first k (cond b 0 6)) settings taken
