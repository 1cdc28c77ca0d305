-- What the calls answer, from what is known of settings and lengths: each has the same three cases, settings that are turned down, a wrong length, and the
-- accepted call.
use Rattle.std.proofs.Common.{◌≡◌, ℕ, ◌^◌, Bool, true, false, ◌&&◌, eqb, List, [], ◌∷◌, length, sym, ap, ◌∙◌}
use Rattle.meaning.specs.Boxes.{cells}
use Rattle.meaning.specs.Values.{value, bound, box_total, box_reduced}
use Rattle.meaning.specs.Recovery.{every}
use Rattle.meaning.specs.Replies.{Reply, accepted, refused}
use Rattle.meaning.specs.Settings.{fits_width, call_number}
use Rattle.meaning.specs.Calls.{truth, left}
use Rattle.meaning.specs.Calls.{valid_reply, value_reply, sum_number, sum_left, reduce_number, reduce_left}
use Rattle.box_rows.specs.Bounds.{is_below}
use Rattle.demand3.specs.Settings.{CallPasses}
use Rattle.demand3.specs.Promises.{Valued, Judged, Summed, Reduced}
use Rattle.demand3.proofs.BoxCalls.{table_valued, judged, summed, reduced}
use Rattle.demand3.specs.Also.{also, also₂}
use Rattle.answers.specs.declared.Refusal.{Refusal}
use Rattle.answers.specs.Said.{code}
use Rattle.settings.specs.Settled.{Settled, Unsettled, unsettled_call, turned_reply, turned_left, settled-number, length-reply, length-left, accepted-reply, accepted-left}

-- ---- the value

-- the reply, and what it promises
abbrev ValueSaid : ℕ → ℕ → List ℕ → List ℕ → List ℕ → List ℕ → Reply → Type 0
ValueSaid total w support ds c xs r =
    (r ≡ value_reply total w support ds c xs)
    × Valued (CallPasses 65536 false total (fits_width w) support ds (λ n. (c, n) ∷ (xs, length support) ∷ [])) w ds c xs r

module _ (w : ℕ) (c xs : List ℕ) {total : ℕ} {support ds : List ℕ} where
  pub value_turned : {r : Refusal} → Unsettled false total (fits_width w) support ds r → ValueSaid total w support ds c xs (refused (code r))
  unfolding value_reply
  value_turned u =
      also (table_valued total w support ds c xs)
      (turned_reply u (eqb (length c) (cells ds) && eqb (length xs) (length support)) (value (2 ^ w) ds c xs))

  module _ {count : ℕ} (s : Settled false total (fits_width w) support ds count) where
    pub value-lengths : (eqb (length c) (cells ds) && eqb (length xs) (length support)) ≡ false → ValueSaid total w support ds c xs (refused 9)
    unfolding value_reply
    value-lengths e =
        also (table_valued total w support ds c xs)
        (length-reply s (eqb (length c) (cells ds) && eqb (length xs) (length support)) e (value (2 ^ w) ds c xs))

    pub value-accepted : (eqb (length c) (cells ds) && eqb (length xs) (length support)) ≡ true
        → {v : ℕ} → v ≡ value (2 ^ w) ds c xs → ValueSaid total w support ds c xs (accepted v)
    unfolding value_reply
    value-accepted e q =
        also (table_valued total w support ds c xs)
        (accepted-reply s (eqb (length c) (cells ds) && eqb (length xs) (length support)) e (value (2 ^ w) ds c xs) q)

-- ---- validity

-- the test of a normal form
abbrev pub is_normal : ℕ → List ℕ → List ℕ → Bool
is_normal w ds c = fits_width w && every (cells ds) (is_below w ds c)

abbrev pub ValidSaid : ℕ → ℕ → List ℕ → List ℕ → List ℕ → Reply → Type 0
ValidSaid total w support ds c r =
    (r ≡ valid_reply total w support ds c) × Judged (CallPasses 65536 false total true support ds (λ n. (c, n) ∷ [])) w ds c r

module _ (w : ℕ) (c : List ℕ) {total : ℕ} {support ds : List ℕ} where
  pub valid_turned : {r : Refusal} → Unsettled false total true support ds r → ValidSaid total w support ds c (refused (code r))
  unfolding valid_reply
  valid_turned u = also (judged w ds c total support) (turned_reply u (eqb (length c) (cells ds)) (truth (is_normal w ds c)))

  module _ {count : ℕ} (s : Settled false total true support ds count) where
    pub valid_length : eqb (length c) (cells ds) ≡ false → ValidSaid total w support ds c (refused 9)
    unfolding valid_reply
    valid_length e = also (judged w ds c total support) (length-reply s (eqb (length c) (cells ds)) e (truth (is_normal w ds c)))

    pub valid_accepted : eqb (length c) (cells ds) ≡ true → (b : Bool) → is_normal w ds c ≡ b → ValidSaid total w support ds c (accepted (truth b))
    unfolding valid_reply
    valid_accepted e b q = also (judged w ds c total support) (accepted-reply s (eqb (length c) (cells ds)) e (truth (is_normal w ds c)) (ap truth (sym q)))

-- ---- calls that leave a table

-- `exact` says that the lengths are right; `done` is what an accepted call leaves, `was` what was there
module _ (exact : Bool) (done was : List ℕ) {total : ℕ} {fits : Bool} {support ds : List ℕ} where
  pub table_turned : {r : Refusal} → Unsettled false total fits support ds r
      → (code r ≡ call_number false total fits support ds exact) × (was ≡ left (call_number false total fits support ds exact) done was)
  table_turned u = (sym (unsettled_call u exact), turned_left u exact done was)

  module _ {count : ℕ} (s : Settled false total fits support ds count) where
    pub table-lengths : exact ≡ false
        → ◌≡◌ {A = ℕ} 9 (call_number false total fits support ds exact)
        × (was ≡ left (call_number false total fits support ds exact) done was)
    table-lengths e = (sym (settled-number s exact false e), length-left s exact e done was)

    pub table-accepted : exact ≡ true → {t : List ℕ} → t ≡ done
        → ◌≡◌ {A = ℕ} 0 (call_number false total fits support ds exact)
        × (t ≡ left (call_number false total fits support ds exact) done was)
    table-accepted e q = (sym (settled-number s exact true e), q ∙ accepted-left s exact e done was)

-- the sum of two boxes
abbrev SumSaid : ℕ → ℕ → List ℕ → List ℕ → List ℕ → List ℕ → List ℕ → ℕ → List ℕ → Type 0
SumSaid total w support ds a b out n t =
    (n ≡ sum_number total w support ds a b out)
    × ((t ≡ sum_left total w support ds a b out)
    × Summed (CallPasses 65536 false total (fits_width w) support ds (λ n. (a, n) ∷ (b, n) ∷ (out, n) ∷ [])) w ds a b n t)

module _ (w : ℕ) (a b out : List ℕ) {total : ℕ} {support ds : List ℕ} where
  pub sum_turned : {r : Refusal} → Unsettled false total (fits_width w) support ds r
      → SumSaid total w support ds a b out (code r) out
  unfolding sum_number sum_left
  sum_turned u =
      also₂ (summed total w support ds a b out)
      (table_turned (eqb (length a) (cells ds) && eqb (length b) (cells ds) && eqb (length out) (cells ds)) (box_total (bound w) ds a b) out u)

  module _ {count : ℕ} (s : Settled false total (fits_width w) support ds count) where
    pub sum-lengths : (eqb (length a) (cells ds) && eqb (length b) (cells ds) && eqb (length out) (cells ds)) ≡ false
        → SumSaid total w support ds a b out 9 out
    unfolding sum_number sum_left
    sum-lengths e =
        also₂ (summed total w support ds a b out)
        (table-lengths (eqb (length a) (cells ds) && eqb (length b) (cells ds) && eqb (length out) (cells ds)) (box_total (bound w) ds a b) out s e)

    pub sum-accepted : (eqb (length a) (cells ds) && eqb (length b) (cells ds) && eqb (length out) (cells ds)) ≡ true
        → {t : List ℕ} → t ≡ box_total (bound w) ds a b → SumSaid total w support ds a b out 0 t
    unfolding sum_number sum_left
    sum-accepted e q =
        also₂ (summed total w support ds a b out)
        (table-accepted (eqb (length a) (cells ds) && eqb (length b) (cells ds) && eqb (length out) (cells ds)) (box_total (bound w) ds a b) out s e q)

-- coefficients taken modulo their bounds
abbrev ReduceSaid : ℕ → ℕ → List ℕ → List ℕ → List ℕ → ℕ → List ℕ → Type 0
ReduceSaid total w support ds c n t =
    (n ≡ reduce_number total w support ds c)
    × ((t ≡ reduce_left total w support ds c) × Reduced (CallPasses 65536 false total (fits_width w) support ds (λ n. (c, n) ∷ [])) w ds c n t)

module _ (w : ℕ) (c : List ℕ) {total : ℕ} {support ds : List ℕ} where
  pub reduce_turned : {r : Refusal} → Unsettled false total (fits_width w) support ds r
      → ReduceSaid total w support ds c (code r) c
  unfolding reduce_number reduce_left
  reduce_turned u = also₂ (reduced total w support ds c) (table_turned (eqb (length c) (cells ds)) (box_reduced (bound w) ds c) c u)

  module _ {count : ℕ} (s : Settled false total (fits_width w) support ds count) where
    pub reduce_length : eqb (length c) (cells ds) ≡ false → ReduceSaid total w support ds c 9 c
    unfolding reduce_number reduce_left
    reduce_length e = also₂ (reduced total w support ds c) (table-lengths (eqb (length c) (cells ds)) (box_reduced (bound w) ds c) c s e)

    pub reduce_accepted : eqb (length c) (cells ds) ≡ true → {t : List ℕ} → t ≡ box_reduced (bound w) ds c
        → ReduceSaid total w support ds c 0 t
    unfolding reduce_number reduce_left
    reduce_accepted e q = also₂ (reduced total w support ds c) (table-accepted (eqb (length c) (cells ds)) (box_reduced (bound w) ds c) c s e q)
