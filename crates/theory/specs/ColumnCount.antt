-- How many columns there are: the sum over the exponents of the first variable, and no more than the box has cells.
use Rattle.std.specs.Prelude.{◌≡◌, refl, Bool, true, false, cond, List, [], ◌∷◌, map, ℕ, zero, suc, ◌+◌, ◌-◌, ◌≤◌, min, leb, length}
use Rattle.std.proofs.Common.{sym, ap, ap₂, ◌∙◌, le_refl, arith, length-append}
use Rattle.std.proofs.Math.Decide.{dec_le}
use Rattle.std.proofs.lemmas.List.{length-map}
use Rattle.meaning.specs.Sums.{sum}
use Rattle.meaning.specs.Boxes.{cells, digits}
use Rattle.meaning.specs.Fit.{total, before, insert, columns_to, columns}
use Rattle.theory.specs.Sums.{sum_last, sum_eq, sum-add}
use Rattle.theory.specs.ColumnListing.{blocks, exactly, by_degree, by_degree-eq}

length-insert : (es : List ℕ) (fs : List (List ℕ)) → length (insert es fs) ≡ suc (length fs)
unfolding insert
length-insert es [] = refl
length-insert es (f ∷ fs) = go (before es f) (length-insert es fs)
  where
    go : (b : Bool) → length (insert es fs) ≡ suc (length fs) → length (cond b (es ∷ f ∷ fs) (f ∷ insert es fs)) ≡ suc (suc (length fs))
    go true e = refl
    go false e = ap suc e

length-columns_to-le : (ds : List ℕ) (most n : ℕ) → length (columns_to ds most n) ≤ n
unfolding columns_to
length-columns_to-le ds most zero = le_refl 0
length-columns_to-le ds most (suc n) = go (leb (total (digits ds n)) most) (length-columns_to-le ds most n)
  where
    go : (b : Bool) → length (columns_to ds most n) ≤ n
        → length (cond b (insert (digits ds n) (columns_to ds most n)) (columns_to ds most n)) ≤ suc n
    go true h = omega (arith, length-insert (digits ds n) (columns_to ds most n))
    go false h = omega arith

-- no more than the cells of the box
pub columns-le-cells : (ds : List ℕ) (most : ℕ) → length (columns ds most) ≤ cells ds
unfolding columns
columns-le-cells ds most = length-columns_to-le ds most (cells ds)

length-blocks : (n : ℕ) (f : ℕ → List (List ℕ)) → length (blocks n f) ≡ sum n (λ i. length (f i))
unfolding blocks sum
length-blocks zero f = refl
length-blocks (suc n) f = length-append (f 0) _ ∙ ap (length (f 0) +◌) (length-blocks n (λ i. f (suc i)))

-- by total degrees
count-by_degree : (ds : List ℕ) (most : ℕ) → length (columns ds most) ≡ sum (suc most) (λ r. length (exactly ds r))
unfolding by_degree
count-by_degree ds most = ap length (sym (by_degree-eq ds most)) ∙ length-blocks (suc most) (exactly ds)

-- one degree more
count_more : (ds : List ℕ) (most : ℕ) → length (columns ds (suc most)) ≡ length (columns ds most) + length (exactly ds (suc most))
count_more ds most =
    count-by_degree ds (suc most)
    ∙ sum_last (suc most) (λ r. length (exactly ds r))
    ∙ ap (◌+ length (exactly ds (suc most))) (sym (count-by_degree ds most))

count-first : (ds : List ℕ) → length (columns ds 0) ≡ length (exactly ds 0)
unfolding sum
count-first ds = count-by_degree ds 0 ∙ omega arith

length-exactly : (d : ℕ) (ds : List ℕ) (r : ℕ) → length (exactly (d ∷ ds) r) ≡ sum (suc (min d r)) (λ e. length (exactly ds (r - e)))
unfolding exactly
length-exactly d ds r =
    length-blocks (suc (min d r)) (λ e. map (e ∷◌) (exactly ds (r - e))) ∙ sum_eq (suc (min d r)) (λ e h. length-map (exactly ds (r - e)) (e ∷◌))

-- no variable: one column
pub count_none : (most : ℕ) → length (columns [] most) ≡ 1
unfolding exactly
count_none zero = count-first []
count_none (suc most) = count_more [] most ∙ ap (◌+ 0) (count_none most)

-- by the exponents of the first variable
pub count-cons : (d : ℕ) (ds : List ℕ) (most : ℕ)
    → length (columns (d ∷ ds) most) ≡ sum (suc (min d most)) (λ e. length (columns ds (most - e)))
count-cons d ds zero =
    count-first (d ∷ ds)
    ∙ length-exactly d ds 0
    ∙ sum_eq (suc (min d 0))
    (λ e h.
    let z : 0 - e ≡ 0 = omega arith in
    ap (λ (n : ℕ). length (exactly ds n)) z ∙ sym (count-first ds) ∙ ap (λ (n : ℕ). length (columns ds n)) (sym z))
count-cons d ds (suc m) =
    count_more (d ∷ ds) m ∙ ap₂ ◌+◌ (count-cons d ds m) (length-exactly d ds (suc m)) ∙ go (dec_le d m)
  where
    C : ℕ → ℕ
    C e = length (columns ds (m - e))

    X : ℕ → ℕ
    X e = length (exactly ds (suc m - e))

    whole : ℕ → ℕ
    whole e = length (columns ds (suc m - e))

    one : (e : ℕ) → e ≤ m → C e + X e ≡ whole e
    one e h =
        let z : suc m - e ≡ suc (m - e) = omega arith in
        ap (λ (n : ℕ). length (columns ds (m - e)) + length (exactly ds n)) z
        ∙ sym (count_more ds (m - e))
        ∙ ap (λ (n : ℕ). length (columns ds n)) (sym z)

    last : X (suc m) ≡ whole (suc m)
    last =
        let z : suc m - suc m ≡ 0 = omega arith in
        ap (λ (n : ℕ). length (exactly ds n)) z ∙ sym (count-first ds) ∙ ap (λ (n : ℕ). length (columns ds n)) (sym z)

    both : (n : ℕ) → n ≤ suc m → sum n C + sum n X ≡ sum n whole
    both n h = sym (sum-add n C X) ∙ sum_eq n (λ e k. one e (omega arith))

    go : Dec (d ≤ m) → sum (suc (min d m)) C + sum (suc (min d (suc m))) X ≡ sum (suc (min d (suc m))) whole
    go (yes h) =
        let a : suc (min d m) ≡ suc d = omega arith in
        let b : suc (min d (suc m)) ≡ suc d = omega arith in
        ap₂ (λ (i j : ℕ). sum i C + sum j X) a b ∙ both (suc d) (omega arith) ∙ ap (λ (i : ℕ). sum i whole) (sym b)
    go (no h) =
        let a : suc (min d m) ≡ suc m = omega arith in
        let b : suc (min d (suc m)) ≡ suc (suc m) = omega arith in
        ap₂ (λ (i j : ℕ). sum i C + sum j X) a b
        ∙ omega (arith, sum_last (suc m) X, both (suc m) (omega arith), last, sum_last (suc m) whole)
        ∙ ap (λ (i : ℕ). sum i whole) (sym b)
