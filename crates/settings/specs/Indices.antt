-- Lists of indices. A test of the entries is carried along the part of the list that is still to be looked at, so that a loop over the entries keeps one
-- equation; repeated entries are found by marks. Distinct indices below n are at most n, since each number below n stands at most once among them.
use Rattle.std.specs.Prelude.{◌≡◌, ◌||◌, cond, List, [], ◌∷◌, leb, set, replicate, refl, Bool, true, false, ℕ, zero, suc, ◌+◌, ◌≤◌, ◌<◌, eqb, length, get_or, drop}
use Rattle.std.specs.List.{list_any}
use Rattle.std.proofs.Common.{sym, ap, ◌∙◌, ap₂, true≢false, le_of_suc-le-suc, not-suc-le-zero, add-one, arith, drop_of_length-le, drop-cons, get_or-set_same, get_or-set_other}
use Rattle.std.proofs.Math.Bool.{or_assoc, or-true, or-false}
use borrow.Author.Tests.{leb-false, eqb-true, eqb-false, eq-eqb, ne_eqb}
use Rattle.meaning.specs.Tables.{at}
use Rattle.meaning.specs.Sums.{sum}
use Rattle.meaning.specs.Settings.{some, repeated}
use Rattle.theory.specs.Sums.{sum-add, sum_one, sum-zero}

-- both sides of an `or` that is false
or_false-left : (a b : Bool) → (a || b) ≡ false → a ≡ false
or_false-left true b e = e
or_false-left false b e = refl

or_false_right : (a b : Bool) → (a || b) ≡ false → b ≡ false
or_false_right true b e = absurd (true≢false e)
or_false_right false b e = e

-- whether some entry passes, by the library's word
pub some-any : (p : ℕ → Bool) (xs : List ℕ) → some p xs ≡ list_any p xs
unfolding some
some-any p [] = refl
some-any p (x ∷ xs) = ap (p x ||◌) (some-any p xs)

-- ---- tests of the entries from a place on

module _ (p : ℕ → Bool) (xs : List ℕ) (i : ℕ) where
  -- the entry at the place passes
  pub some-found : i < length xs → p (at xs i) ≡ true → some p (drop i xs) ≡ true
  unfolding some
  some-found h e = ap (some p) (drop-cons xs i 0 h) ∙ ap (◌|| some p (drop (suc i) xs)) e

  -- it does not: the rest decides
  pub some_next : i < length xs → p (at xs i) ≡ false → some p (drop i xs) ≡ some p (drop (i + 1) xs)
  unfolding some
  some_next h e =
      ap (some p) (drop-cons xs i 0 h) ∙ ap (◌|| some p (drop (suc i) xs)) e ∙ ap (λ (n : ℕ). some p (drop n xs)) (sym (add-one i))

  -- no entry is left
  pub some_end : length xs ≤ i → some p (drop i xs) ≡ false
  unfolding some
  some_end h = ap (some p) (drop_of_length-le xs h)

-- an entry of a list of which none passes
pub some-false-at : (p : ℕ → Bool) (xs : List ℕ) (i : ℕ) → i < length xs → some p xs ≡ false → p (at xs i) ≡ false
unfolding some
some-false-at p [] i h e = absurd (not-suc-le-zero h)
some-false-at p (x ∷ xs) zero h e = or_false-left (p x) (some p xs) e
some-false-at p (x ∷ xs) (suc i) h e = some-false-at p xs i (le_of_suc-le-suc h) (or_false_right (p x) (some p xs) e)

-- tests that agree on the entries
some_cong : (p q : ℕ → Bool) (xs : List ℕ) → ((x : ℕ) → p x ≡ q x) → some p xs ≡ some q xs
unfolding some
some_cong p q [] h = refl
some_cong p q (x ∷ xs) h = ap₂ ◌||◌ (h x) (some_cong p q xs h)

-- one test or the other
some_or : (p q : ℕ → Bool) (xs : List ℕ) → some (λ x. p x || q x) xs ≡ (some p xs || some q xs)
unfolding some
some_or p q [] = refl
some_or p q (x ∷ xs) =
    ap ((p x || q x) ||◌) (some_or p q xs) ∙ swap (p x) (q x) (some p xs) (some q xs)
  where
    swap : (a b c d : Bool) → ((a || b) || (c || d)) ≡ ((a || c) || (b || d))
    swap true b c d = refl
    swap false true c d = sym (or-true c)
    swap false false c d = refl

-- ---- repeated entries, by marks

-- an entry is marked, or stands twice
unfoldable pub again : List Bool → List ℕ → Bool
unfolding some repeated
again seen xs = some (λ x. get_or seen x false) xs || repeated xs

no_marks : (n x : ℕ) → get_or (replicate n false) x false ≡ false
no_marks zero x = refl
no_marks (suc n) zero = refl
no_marks (suc n) (suc x) = no_marks n x

-- at the start nothing is marked
pub again-start : (n : ℕ) (xs : List ℕ) → repeated xs ≡ again (replicate n false) (drop 0 xs)
unfolding again some
again-start n xs = sym (ap (◌|| repeated xs) (nothing xs))
  where
    nothing : (xs : List ℕ) → some (λ x. get_or (replicate n false) x false) xs ≡ false
    nothing [] = refl
    nothing (x ∷ xs) = ap₂ ◌||◌ (no_marks n x) (nothing xs)

module _ (seen : List Bool) (xs : List ℕ) (i : ℕ) where
  -- the entry at the place is marked
  pub again-found : i < length xs → get_or seen (at xs i) false ≡ true → again seen (drop i xs) ≡ true
  unfolding again
  again-found h e = ap (◌|| repeated (drop i xs)) (some-found (λ x. get_or seen x false) xs i h e)

  -- no entry is left
  pub again-end : length xs ≤ i → again seen (drop i xs) ≡ false
  unfolding again some repeated
  again-end h = ap (again seen) (drop_of_length-le xs h)

  -- it is not, and is marked now: the rest decides
  pub again_next : i < length xs → at xs i < length seen → get_or seen (at xs i) false ≡ false →
      again seen (drop i xs) ≡ again (set seen (at xs i) true) (drop (i + 1) xs)
  unfolding again some repeated
  again_next h l e =
      let x = at xs i in
      let rest = drop (suc i) xs in
      let mark : ℕ → Bool = λ y. get_or seen y false in
      ap (again seen) (drop-cons xs i 0 h)
      ∙ ap (λ (b : Bool). (b || some mark rest) || (some (eqb x) rest || repeated rest)) e
      ∙ sym (or_assoc (some mark rest) (some (eqb x) rest) (repeated rest))
      ∙ ap (◌|| repeated rest) (sym (some_or mark (eqb x) rest) ∙ sym (some_cong _ _ rest (marked x l)))
      ∙ ap (λ (n : ℕ). again (set seen x true) (drop n xs)) (sym (add-one i))
    where
      marked : (x : ℕ) → x < length seen → (y : ℕ) → get_or (set seen x true) y false ≡ (get_or seen y false || eqb x y)
      marked x l y = by_cases (eqb x y) refl
        where
          by_cases : (b : Bool) → eqb x y ≡ b → get_or (set seen x true) y false ≡ (get_or seen y false || b)
          by_cases true q = rw (← eqb-true x y q) (get_or-set_same seen x true false l) ∙ sym (or-true (get_or seen y false))
          by_cases false q = get_or-set_other seen x y true false (λ r. eqb-false x y q (sym r)) ∙ sym (or-false (get_or seen y false))

-- ---- distinct indices

-- how often a number stands in a list
count : ℕ → List ℕ → ℕ
count i [] = 0
count i (x ∷ xs) = cond (eqb x i) 1 0 + count i xs

count-zero : (x : ℕ) (xs : List ℕ) → some (eqb x) xs ≡ false → count x xs ≡ 0
unfolding count some
count-zero x [] e = refl
count-zero x (y ∷ ys) e =
    let other : eqb y x ≡ false = ne_eqb y x (λ q. eqb-false x y (or_false-left (eqb x y) (some (eqb x) ys) e) (sym q)) in
    ap₂ ◌+◌ (ap (λ (b : Bool). cond b 1 0) other) (count-zero x ys (or_false_right (eqb x y) (some (eqb x) ys) e))

-- a number stands at most once among distinct ones
count-le : (i : ℕ) (xs : List ℕ) → repeated xs ≡ false → count i xs ≤ 1
unfolding count repeated
count-le i [] e = omega arith
count-le i (x ∷ xs) e = by_cases (eqb x i) refl (count-le i xs (or_false_right (some (eqb x) xs) (repeated xs) e))
  where
    by_cases : (b : Bool) → eqb x i ≡ b → count i xs ≤ 1 → cond b 1 0 + count i xs ≤ 1
    by_cases true q h =
        let z : count i xs ≡ 0 = ap (λ (n : ℕ). count n xs) (sym (eqb-true x i q)) ∙ count-zero x xs (or_false-left (some (eqb x) xs) (repeated xs) e) in
        omega arith
    by_cases false q h = omega arith

-- terms that are at most 1
sum-le : (n : ℕ) (f : ℕ → ℕ) → ((i : ℕ) → f i ≤ 1) → sum n f ≤ n
unfolding sum
sum-le zero f h = omega arith
sum-le (suc n) f h = omega (arith, h 0, sum-le n (λ i. f (suc i)) (λ i. h (suc i)))

-- counted one by one, the numbers below n make up a list of such numbers
sum-count : (n : ℕ) (xs : List ℕ) → some (leb n) xs ≡ false → sum n (λ i. count i xs) ≡ length xs
unfolding count some
sum-count n [] e = sum-zero n (λ i h. refl)
sum-count n (x ∷ xs) e =
    sum-add n (λ i. cond (eqb x i) 1 0) (λ i. count i xs)
    ∙ ap₂ ◌+◌
    (sum_one n (λ i. cond (eqb x i) 1 0) x (leb-false n x (or_false-left (leb n x) (some (leb n) xs) e))
    (λ i h d. ap (λ (b : Bool). cond b 1 0) (ne_eqb x i (λ q. d (sym q))))
    ∙ ap (λ (b : Bool). cond b 1 0) (eq-eqb x x refl))
    (sum-count n xs (or_false_right (leb n x) (some (leb n) xs) e))
    ∙ omega arith

-- distinct indices below n are at most n
pub length-le_of_distinct : (n : ℕ) (xs : List ℕ) → some (leb n) xs ≡ false → repeated xs ≡ false → length xs ≤ n
length-le_of_distinct n xs e d = omega (arith, sum-count n xs e, sum-le n (λ i. count i xs) (λ i. count-le i xs d))
