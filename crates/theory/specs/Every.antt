-- A test of all numbers below a bound, also one part after the other, and the search for the least number below a bound at which a statement fails.
use Rattle.std.specs.Prelude.{◌≡◌, refl, Bool, true, false, ◌&&◌, ◌⊎◌, ◌↔◌, ℕ, zero, suc, ◌+◌, ◌-◌, ◌≤◌, ◌<◌, T}
use Rattle.std.proofs.Common.{sym, ap, ap₂, subst, ◌∙◌, inl, inr, ⊎_elim, suc-le-suc, zero-lt-suc, not-suc-le-zero, le_of_suc-le-suc, eq-or-lt_of_le, add-zero, zero-add, suc-add, add_assoc, sub-eq-zero_of_le, arith}
use Rattle.std.proofs.Math.Bool.{and_assoc, and-true}
use Rattle.std.proofs.Math.Nat.{sub-zero}
use Rattle.meaning.specs.Recovery.{every}

-- a test that is true holds
pub true-iff : (b : Bool) → (b ≡ true) ↔ T b
true-iff true = (λ e. tt, λ t. refl)
true-iff false = (λ e. subst T (sym e) tt, λ t. absurd t)

-- both tests hold exactly when each does
pub and_iff : (a b : Bool) → T (a && b) ↔ (T a × T b)
and_iff true b = (λ t. (tt, t), λ t. t.1)
and_iff false b = (λ t. absurd t, λ t. t.0)

-- what holds of 0 and of the successors of the numbers below n holds of the numbers below n + 1
pub below_suc : (P : ℕ → Type 0) (n : ℕ) → P 0 → ((i : ℕ) → i < n → P (suc i)) → (i : ℕ) → i < suc n → P i
below_suc P n p f zero h = p
below_suc P n p f (suc i) h = f i (le_of_suc-le-suc h)

-- what holds of n, and of i where it is below n, holds of i below n + 1
pub last : (P : ℕ → Type 0) {n : ℕ} (i : ℕ) → i < suc n → P n → (i < n → P i) → P i
last P {n} i p h k = ⊎_elim (λ (e : i ≡ n). subst P (sym e) h) k (eq-or-lt_of_le (le_of_suc-le-suc p))

-- two tests with the same answers
pub every_cong : (n : ℕ) {p q : ℕ → Bool} → ((i : ℕ) → i < n → p i ≡ q i) → every n p ≡ every n q
unfolding every
every_cong zero h = refl
every_cong (suc n) h = ap₂ ◌&&◌ (h 0 (zero-lt-suc n)) (every_cong n (λ i r. h (suc i) (suc-le-suc r)))

-- a test of all numbers below n holds exactly when it holds of each
pub every-iff : (n : ℕ) (p : ℕ → Bool) → T (every n p) ↔ ((i : ℕ) → i < n → T (p i))
unfolding every
every-iff zero p = (λ t i h. absurd (not-suc-le-zero h), λ f. tt)
every-iff (suc n) p =
    let rest : Bool = every n (λ i. p (suc i)) in
    let both : T (p 0 && rest) ↔ (T (p 0) × T rest) = and_iff (p 0) rest in
    let later : T rest ↔ ((i : ℕ) → i < n → T (p (suc i))) = every-iff n (λ i. p (suc i)) in (
      λ t. below_suc (λ i. T (p i)) n (both.0 t).0 (later.0 (both.0 t).1),
      λ f. both.1 (f 0 (zero-lt-suc n), later.1 (λ i h. f (suc i) (suc-le-suc h))),
    )

-- ---- tests one part after the other

every_split : (k n : ℕ) (p : ℕ → Bool) → every (k + n) p ≡ (every k p && every n (λ i. p (k + i)))
unfolding every
every_split zero n p = simp zero-add
every_split (suc k) n p =
    simp suc-add (ap (p 0 &&◌) (every_split k n (λ i. p (suc i))) ∙ sym (and_assoc (p 0) (every k (λ i. p (suc i))) _))

-- the tests from a place on: those of a part, then those after it
every_next : (p : ℕ → Bool) (n from k : ℕ) → from + k ≤ n
    → every (n - from) (λ i. p (from + i)) ≡ (every k (λ i. p (from + i)) && every (n - (from + k)) (λ i. p (from + k + i)))
every_next p n from k h =
    let e : n - from ≡ k + (n - (from + k)) = omega arith in
    ap (λ (j : ℕ). every j (λ i. p (from + i))) e
    ∙ every_split k (n - (from + k)) (λ i. p (from + i))
    ∙ ap (every k (λ i. p (from + i)) &&◌) (every_cong (n - (from + k)) (λ i r. ap p (sym (add_assoc from k i))))

-- of n tests those before `from` pass: the tests from there on decide
pub record Passed (p : ℕ → Bool) (n from : ℕ) : Type 0 where
  pub rest : every n p ≡ every (n - from) (λ i. p (from + i))

pub passed_start : (p : ℕ → Bool) (n : ℕ) → Passed p n 0
passed_start p n =
    record { rest = ap (λ (k : ℕ). every k p) (sym (sub-zero n)) ∙ every_cong (n - 0) (λ i r. ap p (sym (zero-add i))) }

module _ {p : ℕ → Bool} {n from : ℕ} (t : Passed p n from) where
  module _ (k : ℕ) (h : from + k ≤ n) {b : Bool} (e : b ≡ every k (λ i. p (from + i))) where
    turn : every n p ≡ (b && every (n - (from + k)) (λ i. p (from + k + i)))
    turn = t.rest ∙ every_next p n from k h ∙ ap (◌&& every (n - (from + k)) (λ i. p (from + k + i))) (sym e)

    -- a part does not pass
    pub passed_fails : b ≡ false → every n p ≡ false
    passed_fails q = turn ∙ ap (◌&& every (n - (from + k)) (λ i. p (from + k + i))) q

    -- a part does
    pub passed_next : b ≡ true → Passed p n (from + k)
    passed_next q = record { rest = turn ∙ ap (◌&& every (n - (from + k)) (λ i. p (from + k + i))) q }

  -- one test
  module _ (h : from < n) where
    one : p from ≡ every 1 (λ i. p (from + i))
    unfolding every
    one = ap p (sym (add-zero from)) ∙ sym (and-true (p (from + 0)))

    pub passed-one_fails : p from ≡ false → every n p ≡ false
    passed-one_fails q = passed_fails 1 (omega arith) one q

    pub passed-one : p from ≡ true → Passed p n (from + 1)
    passed-one q = passed_next 1 (omega arith) one q

  -- none is left
  pub passed_done : n ≤ from → every n p ≡ true
  unfolding every
  passed_done h = t.rest ∙ ap (λ (j : ℕ). every j (λ i. p (from + i))) (sub-eq-zero_of_le h)

-- ---- the least number at which a statement fails

-- the least number below n at which P fails
pub record Failing (n : ℕ) (P : ℕ → Type 0) : Type 0 where
  pub index : ℕ
  pub below : index < n
  pub fails : P index → ⊥
  pub before : (i : ℕ) → i < index → P i

-- a statement that can be decided holds of all numbers below n, or there is a least one at which it fails
pub all_or_failing : (n : ℕ) (P : ℕ → Type 0) → ((i : ℕ) → Dec (P i)) → ((i : ℕ) → i < n → P i) ⊎ Failing n P
all_or_failing zero P dec = inl (λ i h. absurd (not-suc-le-zero h))
all_or_failing (suc n) P dec = go (dec 0) (all_or_failing n (λ i. P (suc i)) (λ i. dec (suc i)))
  where
    go : Dec (P 0) → ((i : ℕ) → i < n → P (suc i)) ⊎ Failing n (λ i. P (suc i)) → ((i : ℕ) → i < suc n → P i) ⊎ Failing (suc n) P
    go (no q) r = inr (record { index = 0; below = zero-lt-suc n; fails = q; before = λ i h. absurd (not-suc-le-zero h) })
    go (yes p) (inl f) = inl (below_suc P n p f)
    go (yes p) (inr s) =
        inr (record { index = suc s.index; below = suc-le-suc s.below; fails = s.fails; before = below_suc P s.index p s.before })

-- where it does not hold of all, the least one at which it fails
pub failing : (n : ℕ) (P : ℕ → Type 0) → ((i : ℕ) → Dec (P i)) → (((i : ℕ) → i < n → P i) → ⊥) → Failing n P
failing n P dec h =
    ⊎_elim (λ (f : (i : ℕ) → i < n → P i). absurd (h f)) (λ (s : Failing n P). s) (all_or_failing n P dec)
