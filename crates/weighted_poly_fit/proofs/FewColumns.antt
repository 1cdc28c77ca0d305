-- The columns of one variable are its exponents in order; of two variables or more there are so many that the products of all coordinates have a small table.
use Rattle.std.specs.Prelude.{◌≡◌, List, [], ◌∷◌, ℕ, zero, suc, ◌+◌, ◌-◌, ◌*◌, ◌≤◌, ◌<◌, min, length, replicate}
use Rattle.std.proofs.Common.{sym, ap, subst, ◌∙◌, zero-le, not-suc-le-zero, le_of_suc-le-suc, le_trans, le_of_eq, le_refl, lt_irrefl, lt_of_not-le, mul-le-mul, zero-lt-suc, arith}
use Rattle.std.proofs.Math.Nat.{suc-sub-suc}
use Rattle.std.proofs.Math.Decide.{dec_le}
use Rattle.meaning.specs.Tables.{at}
use Rattle.meaning.specs.Sums.{sum}
use Rattle.meaning.specs.Boxes.{cells, Within, none, next}
use Rattle.meaning.specs.Elimination.{joined}
use Rattle.meaning.specs.Fit.{total, columns}
use Rattle.theory.specs.Boxes.{cells_pos}
use Rattle.theory.specs.ColumnOrder.{before_of_degree}
use Rattle.theory.specs.Columns.{In, here, there, in-nil, BeforeAll, before_none, before_more, Ordered, ordered_none, ordered_more, columns_unique}
use Rattle.theory.specs.ColumnCount.{count-cons}
use Rattle.theory.specs.Sums.{sum_eq}
use Rattle.theory.specs.FitSizes.{columns_pos}

-- ---- one variable

-- the lists of one exponent: s, s + 1, .., n of them
singles : ℕ → ℕ → List (List ℕ)
singles zero s = []
singles (suc n) s = (s ∷ []) ∷ singles n (suc s)

-- g is a list of one exponent from s on and below e
record Single (s e : ℕ) (g : List ℕ) : Type 0 where
  exponent : ℕ
  low : s ≤ exponent
  high : exponent < e
  is : g ≡ exponent ∷ []

in_singles : (n s : ℕ) {g : List ℕ} → In g (singles n s) → Single s (s + n) g
unfolding singles
in_singles zero s i = absurd (in-nil i)
in_singles (suc n) s (here e) = record { exponent = s; low = le_refl s; high = omega arith; is = e }
in_singles (suc n) s (there i) =
    let r = in_singles n (suc s) i in
    record { exponent = r.exponent; low = omega (arith, r.low); high = omega (arith, r.high); is = r.is }

singles_in : (n s e : ℕ) → s ≤ e → e < s + n → In (e ∷ []) (singles n s)
unfolding singles
singles_in zero s e l h = absurd (lt_irrefl e (omega arith))
singles_in (suc n) s e l h = go (dec_le e s) (λ k. singles_in n (suc s) e k (omega arith))
  where
    go : Dec (e ≤ s) → (suc s ≤ e → In (e ∷ []) (singles n (suc s))) → In (e ∷ []) ((s ∷ []) ∷ singles n (suc s))
    go (yes p) f = let q : e ≡ s = omega arith in here (ap (◌∷ []) q)
    go (no p) f = there (f (lt_of_not-le p))

before_singles : (a n s : ℕ) → a < s → BeforeAll (a ∷ []) (singles n s)
unfolding singles total
before_singles a zero s h = before_none
before_singles a (suc n) s h =
    before_more (before_of_degree (a ∷ []) (s ∷ []) (omega arith)) (before_singles a n (suc s) (omega arith))

singles_ordered : (n s : ℕ) → Ordered (singles n s)
unfolding singles
singles_ordered zero s = ordered_none
singles_ordered (suc n) s = ordered_more (before_singles s n (suc s) (omega arith)) (singles_ordered n (suc s))

joined_singles : (n s c : ℕ) → c < length (singles n s) → at (joined (singles n s)) c ≡ s + c
unfolding singles joined
joined_singles zero s c h = absurd (not-suc-le-zero h)
joined_singles (suc n) s zero h = omega arith
joined_singles (suc n) s (suc c) h = joined_singles n (suc s) c (le_of_suc-le-suc h) ∙ omega arith

columns_singles : (d most : ℕ) → singles (suc (min d most)) 0 ≡ columns (d ∷ []) most
unfolding total
columns_singles d most = columns_unique (d ∷ []) most (singles_ordered (suc (min d most)) 0) (λ g. (forth g, λ w. back g w.0 w.1))
  where
    forth : (g : List ℕ) → In g (singles (suc (min d most)) 0) → Within (d ∷ []) g × (total g ≤ most)
    forth g i =
        let r = in_singles (suc (min d most)) 0 i in
        let e = r.exponent in
        subst (λ (f : List ℕ). Within (d ∷ []) f × (total f ≤ most)) (sym r.is) (next (omega (arith, r.high)) none, omega (arith, r.high))

    back : (g : List ℕ) → Within (d ∷ []) g → total g ≤ most → In g (singles (suc (min d most)) 0)
    back g (next {e = e} h none) t = singles_in (suc (min d most)) 0 e zero-le (omega arith)

-- column c of one variable has the exponent c
pub columns-one : (d most c : ℕ) → c < length (columns (d ∷ []) most) → at (joined (columns (d ∷ []) most)) c ≡ c
columns-one d most c h =
    subst (λ (fs : List (List ℕ)). c < length fs → at (joined fs) c ≡ c) (columns_singles d most)
    (λ l. joined_singles (suc (min d most)) 0 c l ∙ omega arith) h

-- ---- two variables or more

sum-at_least : (n : ℕ) {f g : ℕ → ℕ} → ((i : ℕ) → i < n → f i ≤ g i) → sum n f ≤ sum n g
unfolding sum
sum-at_least zero h = zero-le
sum-at_least (suc n) h = omega (arith, h 0 (zero-lt-suc n), sum-at_least n (λ i p. h (suc i) (omega arith)))

count-at_least : (n : ℕ) {f : ℕ → ℕ} → ((i : ℕ) → 0 < f i) → n ≤ sum n f
unfolding sum
count-at_least zero h = zero-le
count-at_least (suc n) h = omega (arith, h 0, count-at_least n (λ i. h (suc i)))

-- 1 + 2 + .. + n, twice, is no less than n n
triangle : (d : ℕ) → suc d * suc d ≤ 2 * sum (suc d) (λ e. suc (d - e))
unfolding sum
triangle zero = omega arith
triangle (suc d) =
    let same : sum d (λ i. suc (suc d - suc (suc i))) ≡ sum d (λ i. suc (d - suc i)) = sum_eq d (λ i h. ap suc (suc-sub-suc d (suc i))) in
    omega (arith, triangle d, same)

-- as many columns as the first variable has exponents
columns-first : (d : ℕ) (ds : List ℕ) (most : ℕ) → suc (min d most) ≤ length (columns (d ∷ ds) most)
columns-first d ds most =
    le_trans (count-at_least (suc (min d most)) (λ e. columns_pos ds (most - e))) (le_of_eq (sym (count-cons d ds most)))

-- the square of the exponents of one variable is at most twice the columns of two or more
columns-square : (d : ℕ) (ds : List ℕ) (most : ℕ) → d ≤ most → suc d * suc d ≤ 2 * length (columns (d ∷ d ∷ ds) most)
columns-square d ds most h =
    let e : suc (min d most) ≡ suc d = omega arith in
    let count : length (columns (d ∷ d ∷ ds) most) ≡ sum (suc d) (λ e. length (columns (d ∷ ds) (most - e))) =
    count-cons d (d ∷ ds) most ∙ ap (λ (n : ℕ). sum n (λ e. length (columns (d ∷ ds) (most - e)))) e in
    let more : sum (suc d) (λ e. suc (d - e)) ≤ sum (suc d) (λ e. length (columns (d ∷ ds) (most - e))) =
    sum-at_least (suc d) (λ i p. le_trans {m = suc (min d (most - i))} (omega arith) (columns-first d ds (most - i))) in
    omega (arith, triangle d, count, more)

-- a side times a size is small where the square of the side, times the columns, is
few : (m a s n : ℕ) → 1 ≤ m → s * s ≤ 2 * n → m * a * a * n ≤ 65536 → a * s ≤ 362
few m a s n one square small = go (dec_le (a * s) 362)
  where
    go : Dec (a * s ≤ 362) → a * s ≤ 362
    go (yes p) = p
    go (no p) =
        let high : 363 ≤ a * s = lt_of_not-le p in
        let whole : 363 * 363 ≤ (a * s) * (a * s) = mul-le-mul high high in
        let columns-many : (a * a) * (s * s) ≤ (a * a) * (2 * n) = mul-le-mul (le_refl (a * a)) square in
        let once : 1 * (a * a * n) ≤ m * (a * a * n) = mul-le-mul one (le_refl (a * a * n)) in
        absurd (lt_irrefl 131072 (omega (arith, whole, columns-many, once, small)))

-- so that there are at most 362 products of the coordinates 0 to g to the exponents 0 to d, where the matrix has at most 65,536 entries
pub products_few : (k g d most : ℕ) → d ≤ most → cells (replicate (suc (suc k)) g) * length (columns (replicate (suc (suc k)) d) most) ≤ 65536
    → suc g * suc d ≤ 362
unfolding cells
products_few k g d most h small =
    few (cells (replicate k g)) (suc g) (suc d) (length (columns (replicate (suc (suc k)) d) most)) (cells_pos (replicate k g))
    (columns-square d (replicate k d) most h) small
