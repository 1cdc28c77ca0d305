-- The first exponents of a key, as a list: their sum, the largest of them, and a list that begins with them.
use Rattle.std.proofs.Common.{◌≡◌, ℕ, zero, suc, ◌+◌, ◌-◌, ◌^◌, ◌<◌, ◌≤◌, max, List, [], ◌∷◌, ◌++◌, Bool, true, false, ltb, length, take, drop, length-take-le, get_or-take, get_or-drop, get_or-append-add, length-append, length-drop, sum_by, fold, refl, ap, ◌∙◌, cond, leb, le_of_suc-le-suc, not-suc-le-zero, arith, le-leb, ltb-true, ltb-false}
use Rattle.std.proofs.lemmas.List.Sums.{sum_by-cons}
use Rattle.std.proofs.Math.ListN.{get_or-append}
use Rattle.meaning.specs.Tables.{at, tabulate}
use Rattle.meaning.specs.Sums.{sum}
use Rattle.meaning.specs.Leaves.{largest}
use Rattle.meaning.specs.Replies.{accepted, refused}
use Rattle.theory.specs.Sums.{sum-le}
use Rattle.theory.specs.Tables.{eq-tabulate}

sum_taken : (f : ℕ → ℕ) (n : ℕ) (t : List ℕ) → n ≤ length t → sum_by f (take n t) ≡ sum n (λ i. f (at t i))
unfolding sum
sum_taken f zero t h = refl
sum_taken f (suc n) [] h = absurd (not-suc-le-zero h)
sum_taken f (suc n) (x ∷ xs) h = sum_by-cons f x (take n xs) ∙ ap (f x +◌) (sum_taken f n xs (le_of_suc-le-suc h))

-- the largest of them and of another number
fold_taken : (a n : ℕ) (t : List ℕ) → n ≤ length t → fold max a (take n t) ≡ max a (largest n (at t))
unfolding largest
fold_taken a zero t h = omega arith
fold_taken a (suc n) [] h = absurd (not-suc-le-zero h)
fold_taken a (suc n) (x ∷ xs) h = fold_taken (max a x) n xs (le_of_suc-le-suc h) ∙ omega arith

-- `first` is the first n of the twenty exponents of a key
module _ (n : ℕ) (first key : List ℕ) (h : (n ≤ 20) × (first ≡ take n key)) (whole : length key ≡ 20) where
  -- a sum over them fits, whose terms are at most 255
  pub sum-fits : (f : ℕ → ℕ) → ((i : ℕ) → f (at key i) ≤ 255) → sum_by f first < 2 ^ 32
  sum-fits f bound = omega (arith, h.0, ap (sum_by f) h.1 ∙ sum_taken f n key (omega (arith, h.0)), sum-le n 255 bound)

  -- what is said of such a sum, and of the largest
  pub sum_said : (f : ℕ → ℕ) {r : ℕ} → r ≡ sum_by f first → accepted r ≡ cond (leb n 20) (accepted (sum n (λ i. f (at key i)))) (refused 11)
  sum_said f e = simp (le-leb n 20 h.0) (ap accepted (e ∙ ap (sum_by f) h.1 ∙ sum_taken f n key (omega (arith, h.0))))

  pub largest_said : {r : ℕ} → r ≡ fold max 0 first → accepted r ≡ cond (leb n 20) (accepted (largest n (at key))) (refused 11)
  largest_said e =
      let named = fold_taken 0 n key (omega (arith, h.0)) in
      simp (le-leb n 20 h.0) (ap accepted (e ∙ ap (fold max 0) h.1 ∙ omega (arith, named)))

-- a list with its first n entries replaced by those of another
pub copied : (n : ℕ) (from to : List ℕ) → n ≤ length from → n ≤ length to
    → take n from ++ drop n to ≡ tabulate (length to) (λ i. cond (ltb i n) (at from i) (at to i))
copied n from to h fits = eq-tabulate (take n from ++ drop n to) (length to) _ long (λ i p. entry i (ltb i n) refl)
  where
    front : length (take n from) ≡ n
    front = length-take-le n from h

    long : length (take n from ++ drop n to) ≡ length to
    long = simp (length-append, length-drop) (omega (arith, front))

    entry : (i : ℕ) (b : Bool) → ltb i n ≡ b → at (take n from ++ drop n to) i ≡ cond b (at from i) (at to i)
    entry i true e =
        let p = ltb-true i n e in
        let q : i < length (take n from) = omega (arith, front, p) in
        get_or-append (take n from) (drop n to) 0 i q ∙ get_or-take n from i 0 p
    entry i false e =
        let p = ltb-false i n e in
        ap (at (take n from ++ drop n to)) (omega (arith, front, p))
        ∙ get_or-append-add (take n from) (drop n to) (i - n) 0
        ∙ get_or-drop n to (i - n) 0
        ∙ ap (at to) (omega (arith, p))
