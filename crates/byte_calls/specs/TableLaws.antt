-- What the calls answer and leave, from what is known of the support's bytes, the settings and the tables' bytes: each has the same three cases, settings that
-- are turned down, a wrong length, and the call on the tables that the bytes hold.
use Rattle.std.specs.Prelude.{◌≡◌, Bool, List, [], ◌∷◌, ℕ, zero, suc, ◌*◌, ◌<◌, ◌≤◌, ◌^◌, Result, Ok, Err, eqb, take, replicate, refl, true, false, ◌&&◌, cond, length}
use Rattle.std.proofs.Common.{◌∙◌, lt_irrefl, length-take-le, le_of_suc-le-suc, not-suc-le-zero, suc-ne-zero, arith, eq-eqb, eqb-true, sym, ap, ap₂}
use Rattle.std.proofs.lemmas.List.{length-replicate}
use Rattle.meaning.specs.Tables.{tabulate}
use Rattle.meaning.specs.Boxes.{cells}
use Rattle.meaning.specs.Values.{value}
use Rattle.meaning.specs.Recovery.{accepts, answer}
use Rattle.meaning.specs.Replies.{Reply, refused}
use Rattle.meaning.specs.Settings.{fits_width, table_limit, byte_limit, small_number, first}
use Rattle.meaning.specs.Calls.{reply, left, in_out_number, recovery_number, recovery_left, value_reply}
use Rattle.theory.specs.AcceptedCalls.{first-zero}
use Rattle.settings.specs.Causes.{passes, passes_higher, settings-cells-le}
use Rattle.answers.specs.declared.Refusal.{Refusal}
use Rattle.answers.specs.Said.{code, said}
use Rattle.answers.specs.Laws.{number-accepted, value-accepted, number-refused, reply-code, first_code, left-code}
use Rattle.settings.specs.Settled.{Settled, settled-number}
use Rattle.byte_calls.specs.declared.checks.ByteSettings.{ByteSettings}
use Rattle.byte_calls.specs.Bytes.{decoded, encoded}
use Rattle.byte_calls.specs.Forms.{zeros}
use Rattle.byte_calls.specs.ByteLaws.{length-decoded}
use Rattle.demand3.specs.Settings.{CallPasses}
use Rattle.demand3.specs.Promises.{Decides, Valued}
use Rattle.demand3.specs.Also.{also, also₂}
use Rattle.byte_calls.specs.BytePromises.{bytes_decide, bytes_valued}
use Rattle.byte_calls.specs.Calls.{holds, box_number, bytes_recovery_cause, bytes_recovery_number, bytes_recovery_left, bytes_value_reply}

is_true : (b : Bool) (n : ℕ) → ◌≡◌ {A = ℕ} (cond b 0 (suc n)) 0 → b ≡ true
is_true true n e = refl
is_true false n e = absurd (suc-ne-zero n e)

pub length-zeros : (n : ℕ) → length (zeros n) ≡ n
length-zeros n = length-replicate {A = ℕ} n 0

pub lent-zeros : (n most : ℕ) → n ≤ most → take n (replicate most 0) ≡ zeros n
lent-zeros zero most h = refl
lent-zeros (suc n) zero h = absurd (not-suc-le-zero h)
lent-zeros (suc n) (suc most) h = ap (0 ∷◌) (lent-zeros n most (le_of_suc-le-suc h))

-- the part of a room that is lent is as long as what it is lent for
pub room : (n most : ℕ) → n ≤ most → n ≡ length (take n (replicate {A = ℕ} most 0))
room n most h = sym (length-take-le n (replicate most 0) (rw (length-replicate {A = ℕ} most 0) h))

-- recovery on it is recovery on a table of zeros
pub lent_recovered : (total w : ℕ) (support ds v : List ℕ) (n most : ℕ) → n ≤ most → {x : ℕ} {t : List ℕ}
    → (x ≡ recovery_number total w support ds v (take n (replicate most 0))) × (t ≡ encoded (recovery_left total w support ds v (take n (replicate most 0))))
    → (x ≡ recovery_number total w support ds v (zeros n)) × (t ≡ encoded (recovery_left total w support ds v (zeros n)))
lent_recovered total w support ds v n most h (e, f) = (
  e ∙ ap (recovery_number total w support ds v) (lent-zeros n most h),
  f ∙ ap (λ (z : List ℕ). encoded (recovery_left total w support ds v z)) (lent-zeros n most h),
)

-- what is at most `most` is not above it
pub not_most : {A : Type 0} (n most : ℕ) → n ≤ most → most < n → A
not_most n most h l = absurd (lt_irrefl most (omega (arith, h, l)))

-- bytes of more than 64 entries are more than 512
pub not_small : {A : Type 0} (bytes cells : ℕ) → bytes ≡ cells * 8 → bytes ≤ 512 → 64 < cells → A
not_small bytes cells e h l = not_most bytes 512 h (omega (arith, e, l))

-- a wrong length settles the number, and the table stays
nine_first : (n k : ℕ) → n ≡ 9 → ◌≡◌ {A = ℕ} 9 (first n k)
nine_first n k e = sym (ap (λ (i : ℕ). first i k) e)

nine_left : (n : ℕ) (done was : List ℕ) → n ≡ 9 → was ≡ left n done was
nine_left n done was e = sym (ap (λ (i : ℕ). left i done was) e)

-- ---- the support's bytes and the settings pass

-- the support has the bytes of at most twenty indices
pub record Held (support : List ℕ) (count : ℕ) : Type 0 where
  pub bytes : length support ≡ count * 8
  pub few : count ≤ 20

-- the number before a table is looked at
abbrev pub before : Bool → ByteSettings → List ℕ → ℕ
before strict s ds = box_number strict s.count s.total s.bitwidth s.support.now ds

pub record Boxed (strict : Bool) (s : ByteSettings) (ds : List ℕ) (n : ℕ) : Type 0 where
  pub number : before strict s ds ≡ 0
  pub settles : Settled strict s.total (fits_width s.bitwidth) (decoded s.support.now) ds n
  pub held : Held s.support.now s.count
  pub small : n ≤ byte_limit

module _ (strict : Bool) (s : ByteSettings) (ds : List ℕ) {answer : Result ℕ Refusal} (says : said answer ≡ reply (before strict s ds) (cells ds)) where
  pub boxed : {n : ℕ} → answer ≡ Ok n → Boxed strict s ds n
  unfolding box_number
  boxed {n} e =
      let told = sym (ap said e) ∙ says in
      let none = number-accepted (before strict s ds) (cells ds) told in
      let counted = value-accepted (before strict s ds) (cells ds) told in
      let support = decoded s.support.now in
      let fits = fits_width s.bitwidth in
      let causes = first-zero (cond (holds s.support.now s.count) 0 9) (small_number strict s.total fits support ds) none in
      let bytes : length s.support.now ≡ s.count * 8 = eqb-true (length s.support.now) (s.count * 8) (is_true (holds s.support.now s.count) 8 causes.0) in
      let few = (passes byte_limit strict s.total fits support ds causes.1).short in
      record {
        number = none;
        settles =
            record { passes = passes_higher byte_limit strict s.total fits support ds causes.1 table_limit (omega arith); counted = counted };
        held = record { bytes = bytes; few = rw (length-decoded s.support.now s.count bytes) at few };
        small = rw counted (settings-cells-le byte_limit strict s.total fits support ds causes.1);
      }

  pub unboxed : {r : Refusal} → answer ≡ Err r → before strict s ds ≡ code r
  unboxed {r} e = number-refused r (before strict s ds) (cells ds) (sym (ap said e) ∙ says)

-- bytes of n entries, as many as the box has cells
module _ {strict : Bool} {s : ByteSettings} {ds : List ℕ} {n : ℕ} (b : Boxed strict s ds n) where
  pub holds-cells : (bytes : List ℕ) {x : Bool} → holds bytes n ≡ x → holds bytes (cells ds) ≡ x
  holds-cells bytes e = ap (holds bytes) (sym b.settles.counted) ∙ e

  decoded-cells : (bytes : List ℕ) → holds bytes n ≡ true → length (decoded bytes) ≡ cells ds
  decoded-cells bytes e = length-decoded bytes (cells ds) (eqb-true (length bytes) (cells ds * 8) (holds-cells bytes e))

-- ---- recovery

module _ (s : ByteSettings) (ds values out : List ℕ) where
  abbrev support : List ℕ
  support = s.support.now

  recover_causes : {n k : ℕ} → before true s ds ≡ n → cond (holds values (cells ds) && holds out (cells ds)) 0 9 ≡ k
      → bytes_recovery_cause s.count s.total s.bitwidth support ds values out ≡ first n k
  unfolding bytes_recovery_cause
  recover_causes e q = ap₂ first e q

  -- what is returned and left, and what they promise
  abbrev Said : ℕ → List ℕ → Type 0
  Said n t =
      (n ≡ bytes_recovery_number s.count s.total s.bitwidth support ds values out)
      × ((t ≡ bytes_recovery_left s.count s.total s.bitwidth support ds values out)
      × Decides (CallPasses 4096 true s.total (fits_width s.bitwidth) (decoded support) ds (λ n. (support, s.count * 8) ∷ (values, n * 8) ∷ (out, n * 8) ∷ []))
      s.bitwidth ds (decoded values) n (decoded t))

  promised : {n : ℕ} {t : List ℕ} → (n ≡ bytes_recovery_number s.count s.total s.bitwidth support ds values out)
      × (t ≡ bytes_recovery_left s.count s.total s.bitwidth support ds values out) → Said n t
  promised = also₂ (bytes_decide s.count s.total s.bitwidth support ds values out)

  -- settings that are turned down
  pub recover_turned : (r : Refusal) → before true s ds ≡ code r → Said (code r) out
  unfolding bytes_recovery_number bytes_recovery_left
  recover_turned r e =
      let cause = recover_causes e refl ∙ first_code r _ refl in
      promised (sym (first_code r _ cause), sym (left-code r _ _ cause))

  module _ {n : ℕ} (b : Boxed true s ds n) where
    -- a wrong length
    pub recover_lengths : holds values n && holds out n ≡ false → Said 9 out
    unfolding bytes_recovery_number bytes_recovery_left
    recover_lengths e =
        let exact = ap₂ ◌&&◌ (holds-cells b values refl) (holds-cells b out refl) ∙ e in
        let cause = recover_causes b.number (ap (λ (x : Bool). cond x 0 9) exact) in
        promised (nine_first _ _ cause, nine_left _ _ out cause)

    module _ (hv : holds values n ≡ true) (ho : holds out n ≡ true) (found : List ℕ) (long : length found ≡ n) where
      exact : eqb (length (decoded values)) (cells ds) && eqb (length found) (cells ds) ≡ true
      exact = ap₂ ◌&&◌ (eq-eqb _ _ (decoded-cells b values hv)) (eq-eqb _ _ (long ∙ b.settles.counted))

      passed : in_out_number true s.total s.bitwidth (decoded support) ds (decoded values) found ≡ 0
      passed = settled-number b.settles _ true exact

      cause : bytes_recovery_cause s.count s.total s.bitwidth support ds values out ≡ 0
      cause = recover_causes b.number (ap (λ (x : Bool). cond x 0 9) (ap₂ ◌&&◌ (holds-cells b values hv) (holds-cells b out ho)))

      -- the call on the tables
      pub recover_done : {x : ℕ} {t : List ℕ} → x ≡ recovery_number s.total s.bitwidth (decoded support) ds (decoded values) found
          → t ≡ encoded (recovery_left s.total s.bitwidth (decoded support) ds (decoded values) found) → Said x t
      unfolding bytes_recovery_number bytes_recovery_left recovery_number recovery_left
      recover_done p q =
          let w = s.bitwidth in
          let v = decoded values in
          let done = cond (accepts w ds v) (answer w ds v) (tabulate (cells ds) (λ n. 0)) in
          promised (
            p ∙ ap (λ (k : ℕ). first k (cond (accepts w ds v) 0 6)) (passed ∙ sym cause),
            q ∙ ap (λ (k : ℕ). encoded (left k done found)) passed ∙ ap (λ (k : ℕ). left k (encoded done) out) (sym cause),
          )

-- ---- the value

module _ (s : ByteSettings) (ds coeffs point : List ℕ) where
  -- the reply, and what it promises
  abbrev Replied : Reply → Type 0
  Replied r =
      let support = s.support.now in
      (r ≡ bytes_value_reply s.count s.total s.bitwidth support ds coeffs point)
      × Valued (CallPasses 4096 false s.total (fits_width s.bitwidth) (decoded support) ds
      (λ n. (support, s.count * 8) ∷ (coeffs, n * 8) ∷ (point, s.count * 8) ∷ [])) s.bitwidth ds (decoded coeffs) (decoded point) r

  told : {r : Reply} → r ≡ bytes_value_reply s.count s.total s.bitwidth s.support.now ds coeffs point → Replied r
  told = also (bytes_valued s.count s.total s.bitwidth s.support.now ds coeffs point)

  -- settings that are turned down
  pub value_turned : (r : Refusal) → before false s ds ≡ code r → Replied (refused (code r))
  unfolding bytes_value_reply
  value_turned r e = told (reply-code r _ (first_code r _ e))

  module _ {n : ℕ} (b : Boxed false s ds n) where
    number_of : (x : Bool) → holds coeffs n && holds point s.count ≡ x
        → first (before false s ds) (cond (holds coeffs (cells ds) && holds point s.count) 0 9) ≡ cond x 0 9
    number_of x e =
        ap₂ first b.number (ap (λ (x : Bool). cond x 0 9) (ap (◌&& holds point s.count) (holds-cells b coeffs refl) ∙ e))

    -- a wrong length
    pub value-lengths : holds coeffs n && holds point s.count ≡ false → Replied (refused 9)
    unfolding bytes_value_reply
    value-lengths e = told (sym (ap (λ (k : ℕ). reply k (value (2 ^ s.bitwidth) ds (decoded coeffs) (decoded point))) (number_of false e)))

    -- the call on the tables
    pub value_done : holds coeffs n ≡ true → holds point s.count ≡ true
        → {r : Reply} → r ≡ value_reply s.total s.bitwidth (decoded s.support.now) ds (decoded coeffs) (decoded point) → Replied r
    unfolding bytes_value_reply value_reply
    value_done hc hp q =
        let here = length-decoded point s.count (eqb-true _ _ hp) ∙ sym (length-decoded s.support.now s.count b.held.bytes) in
        let exact = ap₂ ◌&&◌ (eq-eqb _ _ (decoded-cells b coeffs hc)) (eq-eqb _ _ here) in
        told
        (q
        ∙ ap (λ (k : ℕ). reply k (value (2 ^ s.bitwidth) ds (decoded coeffs) (decoded point)))
        (settled-number b.settles _ true exact ∙ sym (number_of true (ap₂ ◌&&◌ hc hp))))
