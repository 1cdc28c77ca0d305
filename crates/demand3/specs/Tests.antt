-- Tests on numbers and lists, taken apart: what it says that a test of several passes, that a first cause is none, that no entry of a list passes a test.
use Rattle.std.specs.Prelude.{◌≡◌, refl, ◌↔◌, Bool, true, false, not, ◌&&◌, ◌||◌, cond, ℕ, zero, suc, ◌<◌, List, [], ◌∷◌, T, eqb, length}
use Rattle.std.proofs.Common.{sym, subst, suc-le-suc, zero-lt-suc, not-suc-le-zero, le_of_suc-le-suc, arith, ne_eqb, T_not}
use Rattle.std.proofs.lemmas.Bool.{eqb-false}
use Rattle.meaning.specs.Tables.{at}
use Rattle.meaning.specs.Settings.{some, repeated, first}
use Rattle.theory.specs.Every.{below_suc}

-- ---- numbers

pub false-true : {A : Type 0} → true ≡ false → A
false-true e = absurd (subst T e tt)

pub or_false : (a b : Bool) → (a || b ≡ false) ↔ ((a ≡ false) × (b ≡ false))
or_false true b = (λ e. false-true e, λ e. e.0)
or_false false b = (λ e. (refl, e), λ e. e.1)

pub and_true : (a b : Bool) → (a && b ≡ true) ↔ ((a ≡ true) × (b ≡ true))
and_true true b = (λ e. (refl, e), λ e. e.1)
and_true false b = (λ e. (e, false-true (sym e)), λ e. e.0)

-- a refusal's number is not 0
pub suc-zero : {A : Type 0} (n : ℕ) → suc n ≡ 0 → A
suc-zero n e = absurd (not-suc-le-zero (subst (λ (k : ℕ). 0 < k) e (zero-lt-suc n)))

-- a cause that must not apply, and one that must not fail
pub cond-false : (b : Bool) (n k : ℕ) → (cond b (suc n) k ≡ 0) ↔ ((b ≡ false) × (k ≡ 0))
cond-false true n k = (λ e. suc-zero n e, λ e. false-true e.0)
cond-false false n k = (λ e. (refl, e), λ e. e.1)

pub cond-true : (b : Bool) (n k : ℕ) → (cond b k (suc n) ≡ 0) ↔ ((b ≡ true) × (k ≡ 0))
cond-true true n k = (λ e. (refl, e), λ e. e.1)
cond-true false n k = (λ e. suc-zero n e, λ e. false-true (sym e.0))

pub first-zero : (a b : ℕ) → (first a b ≡ 0) ↔ ((a ≡ 0) × (b ≡ 0))
first-zero zero b = (λ e. (refl, e), λ e. e.1)
first-zero (suc a) b = (λ e. suc-zero a e, λ e. e.0)

-- numbers other than 6
pub not_6 : (n : ℕ) → T (not (eqb n 6)) → n ≡ 6 → ⊥
not_6 n t e = T_not (eqb n 6) t (subst (λ (k : ℕ). T (eqb k 6)) (sym e) tt)

pub cond_not_6 : (b : Bool) {n k : ℕ} → (n ≡ 6 → ⊥) → (k ≡ 6 → ⊥) → cond b n k ≡ 6 → ⊥
cond_not_6 true f g = f
cond_not_6 false f g = g

pub first_not_6 : (a b : ℕ) → (a ≡ 6 → ⊥) → (b ≡ 6 → ⊥) → first a b ≡ 6 → ⊥
first_not_6 zero b f g = g
first_not_6 (suc a) b f g = f

-- a first number that is not 6 is 0 where the outcome is 6
pub first_6 : (a b : ℕ) → (a ≡ 6 → ⊥) → first a b ≡ 6 → a ≡ 0
first_6 zero b f e = refl
first_6 (suc a) b f e = absurd (f e)

-- ---- lists

-- no entry passes a test
pub none_pass : (p : ℕ → Bool) (xs : List ℕ) → (some p xs ≡ false) ↔ ((i : ℕ) → i < length xs → p (at xs i) ≡ false)
unfolding some
none_pass p [] = (λ e i l. absurd (not-suc-le-zero l), λ f. refl)
none_pass p (x ∷ xs) =
    let both : (p x || some p xs ≡ false) ↔ ((p x ≡ false) × (some p xs ≡ false)) = or_false (p x) (some p xs) in
    let later : (some p xs ≡ false) ↔ ((i : ℕ) → i < length xs → p (at xs i) ≡ false) = none_pass p xs in (
      λ e. below_suc (λ i. p (at (x ∷ xs) i) ≡ false) (length xs) (both.0 e).0 (later.0 (both.0 e).1),
      λ f. both.1 (f 0 (zero-lt-suc (length xs)), later.1 (λ i l. f (suc i) (suc-le-suc l))),
    )

-- no two entries are equal
abbrev pub Distinct : List ℕ → Type 0
Distinct xs = (i j : ℕ) → i < j → j < length xs → at xs i ≡ at xs j → ⊥

distinct_cons : (x : ℕ) (xs : List ℕ) → ((j : ℕ) → j < length xs → eqb x (at xs j) ≡ false) → Distinct xs → Distinct (x ∷ xs)
distinct_cons x xs h d i zero l k e = absurd (not-suc-le-zero l)
distinct_cons x xs h d zero (suc j) l k e = eqb-false x (at xs j) (h j (le_of_suc-le-suc k)) e
distinct_cons x xs h d (suc i) (suc j) l k e = d i j (le_of_suc-le-suc l) (le_of_suc-le-suc k) e

pub none_repeated : (xs : List ℕ) → (repeated xs ≡ false) ↔ Distinct xs
unfolding repeated
none_repeated [] = (λ e i j l k. absurd (not-suc-le-zero k), λ d. refl)
none_repeated (x ∷ xs) =
    let both : (some (eqb x) xs || repeated xs ≡ false) ↔ ((some (eqb x) xs ≡ false) × (repeated xs ≡ false)) =
    or_false (some (eqb x) xs) (repeated xs) in
    let others : (some (eqb x) xs ≡ false) ↔ ((j : ℕ) → j < length xs → eqb x (at xs j) ≡ false) = none_pass (eqb x) xs in
    let later : (repeated xs ≡ false) ↔ Distinct xs = none_repeated xs in (
      λ e. distinct_cons x xs (others.0 (both.0 e).0) (later.0 (both.0 e).1),
      λ d. both.1 (
        others.1 (λ j l. ne_eqb x (at xs j) (d 0 (suc j) (zero-lt-suc j) (suc-le-suc l))),
        later.1 (λ i j l k. d (suc i) (suc j) (suc-le-suc l) (suc-le-suc k)),
      ),
    )

-- above 0
pub positive_iff : (n : ℕ) → (eqb n 0 ≡ false) ↔ (0 < n)
positive_iff n = (λ e. let ne : n ≡ 0 → ⊥ = eqb-false n 0 e in omega arith, λ l. ne_eqb n 0 (λ e. omega arith))
