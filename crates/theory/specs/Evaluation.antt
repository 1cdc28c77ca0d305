-- One evaluation for everything in several variables: the sum over a box of the coefficient of each exponent list times the product of f x e over
-- the variables. With binomial coefficients for f it is Newton's series, with falling factorials the value of a coefficient box, with powers that
-- of a polynomial, with Stirling numbers a conversion.
-- Every law is an induction over the variables by `eval-cons`, with the law of one variable at each step.
use Rattle.std.specs.Prelude.{◌≡◌, refl, ℕ, suc, ◌+◌, ◌*◌, ◌%◌, ◌≤◌, ◌<◌, length, drop, List, [], ◌∷◌}
use Rattle.std.proofs.Common.{sym, ap, ◌∙◌, suc-le-suc, zero-lt-suc, le_of_suc-le-suc, mul-add, mul-pos, arith}
use Rattle.meaning.specs.Tables.{at}
use Rattle.meaning.specs.Sums.{sum}
use Rattle.meaning.specs.Factorials.{falling}
use Rattle.meaning.specs.Boxes.{cells, digits, cell, Within, none, next, box_sum}
use Rattle.meaning.specs.Values.{product, value}
use Rattle.meaning.specs.Differences.{diffs, differences}
use Rattle.theory.specs.Congruence.{Cong, cong_of_eq, cong_sym, cong_trans, cong_mul, cong_mul-left, cong_of_mul}
use Rattle.theory.specs.Sums.{sum_eq, sum_cong, sum-mul-left, sum-mul_right, sum_swap}
use Rattle.theory.specs.Binomials.{choose}
use Rattle.theory.specs.Newton.{series, newton_expansion, newton_unique}
use Rattle.theory.specs.Boxes.{cell-digits, box_sum-eq, box_sum_cong, box_sum-add, box_sum-mul-left, sum-box_sum, box_sum-eq-sum}

-- the sum over the box of the coefficients A times the products of f, at xs
unfoldable pub eval : (ℕ → ℕ → ℕ) → List ℕ → (List ℕ → ℕ) → List ℕ → ℕ
unfolding product box_sum
eval f ds A xs = box_sum ds (λ es. product f (length ds) xs es * A es)

-- without variables it is the one coefficient
pub eval-nil : (f : ℕ → ℕ → ℕ) (A : List ℕ → ℕ) (xs : List ℕ) → eval f [] A xs ≡ A []
unfolding eval
eval-nil f A xs = omega arith

-- the first variable apart
pub eval-cons : (f : ℕ → ℕ → ℕ) (d : ℕ) (ds : List ℕ) (A : List ℕ → ℕ) (xs : List ℕ)
    → eval f (d ∷ ds) A xs ≡ sum (suc d) (λ e. f (at xs 0) e * eval f ds (λ es. A (e ∷ es)) (drop 1 xs))
unfolding eval
eval-cons f d ds A xs =
    sum_eq (suc d) (λ e p.
    box_sum-eq ds (λ es w. omega arith)
    ∙ box_sum-mul-left ds (f (at xs 0) e) (λ es. product f (length ds) (drop 1 xs) es * A (e ∷ es)))

-- equal coefficients within the box
pub eval-eq : (f : ℕ → ℕ → ℕ) (ds : List ℕ) {A B : List ℕ → ℕ} (xs : List ℕ)
    → ((es : List ℕ) → Within ds es → A es ≡ B es) → eval f ds A xs ≡ eval f ds B xs
unfolding eval
eval-eq f ds xs h = box_sum-eq ds (λ es w. ap (product f (length ds) xs es *◌) (h es w))

-- congruent coefficients within the box
pub eval_cong : {m : ℕ} (f : ℕ → ℕ → ℕ) (ds : List ℕ) {A B : List ℕ → ℕ} (xs : List ℕ)
    → ((es : List ℕ) → Within ds es → Cong m (A es) (B es)) → Cong m (eval f ds A xs) (eval f ds B xs)
unfolding eval
eval_cong f ds xs h = box_sum_cong ds (λ es w. cong_mul-left (product f (length ds) xs es) (h es w))

-- a sum of coefficients
pub eval-sum : (f : ℕ → ℕ → ℕ) (ds : List ℕ) (n : ℕ) (c : ℕ → ℕ) (B : ℕ → List ℕ → ℕ) (xs : List ℕ)
    → eval f ds (λ es. sum n (λ k. c k * B k es)) xs ≡ sum n (λ k. c k * eval f ds (B k) xs)
unfolding eval
eval-sum f ds n c B xs =
    let P : List ℕ → ℕ = product f (length ds) xs in
    box_sum-eq ds (λ es w. sym (sum-mul-left n (P es) (λ k. c k * B k es)))
    ∙ sym (sum-box_sum n ds (λ k es. P es * (c k * B k es)))
    ∙ sum_eq n (λ k p. box_sum-eq ds (λ es w. omega arith) ∙ box_sum-mul-left ds (c k) (λ es. P es * B k es))

-- the sum of two lots of coefficients
pub eval_add : (f : ℕ → ℕ → ℕ) (ds : List ℕ) (A B : List ℕ → ℕ) (xs : List ℕ)
    → eval f ds (λ es. A es + B es) xs ≡ eval f ds A xs + eval f ds B xs
unfolding eval
eval_add f ds A B xs =
    let P : List ℕ → ℕ = product f (length ds) xs in
    box_sum-eq ds (λ es w. mul-add (P es) (A es) (B es)) ∙ box_sum-add ds (λ es. P es * A es) (λ es. P es * B es)

-- ---- conditions on each variable's degree and coordinate

-- P holds of each degree with its coordinate; a list of coordinates that is too short is read as if zeros followed
pub data Each (P : ℕ → ℕ → Type 0) : List ℕ → List ℕ → Type 0 where
  done : {xs : List ℕ} → Each P [] xs
  more : {d : ℕ} {ds xs : List ℕ} → P d (at xs 0) → Each P ds (drop 1 xs) → Each P (d ∷ ds) xs

-- what holds of all numbers
pub each_of_all : {P : ℕ → ℕ → Type 0} (ds xs : List ℕ) → ((d x : ℕ) → P d x) → Each P ds xs
each_of_all [] xs h = done
each_of_all (d ∷ ds) xs h = more (h d (at xs 0)) (each_of_all ds (drop 1 xs) h)

-- congruent functions f and g, at the coordinates and up to the degrees
pub eval_cong_function : {m : ℕ} {f g : ℕ → ℕ → ℕ} {ds : List ℕ} (A : List ℕ → ℕ) {xs : List ℕ}
    → Each (λ d x. (e : ℕ) → e ≤ d → Cong m (f x e) (g x e)) ds xs → Cong m (eval f ds A xs) (eval g ds A xs)
eval_cong_function {m} {f} {g} A {xs} done = cong_of_eq m (eval-nil f A xs ∙ sym (eval-nil g A xs))
eval_cong_function {m} {f} {g} A {xs} (more {d} {ds} p r) =
    cong_trans (cong_of_eq m (eval-cons f d ds A xs))
    (cong_trans
    (sum_cong (suc d) (λ e q. cong_mul (p e (le_of_suc-le-suc q)) (eval_cong_function (λ es. A (e ∷ es)) r)))
    (cong_of_eq m (sym (eval-cons g d ds A xs))))

-- the coordinates behind the first
pub at_drop : (zs : List ℕ) (i : ℕ) → at (drop 1 zs) i ≡ at zs (suc i)
at_drop [] i = refl
at_drop (z ∷ zs) i = refl

-- congruent points, for a function that depends on x modulo m only
pub eval_cong_point : {m : ℕ} (f : ℕ → ℕ → ℕ) (ds : List ℕ) (A : List ℕ → ℕ) (xs ys : List ℕ)
    → ((x y e : ℕ) → Cong m x y → Cong m (f x e) (f y e))
    → ((i : ℕ) → i < length ds → Cong m (at xs i) (at ys i))
    → Cong m (eval f ds A xs) (eval f ds A ys)
eval_cong_point {m} f [] A xs ys r h = cong_of_eq m (eval-nil f A xs ∙ sym (eval-nil f A ys))
eval_cong_point {m} f (d ∷ ds) A xs ys r h =
    cong_trans (cong_of_eq m (eval-cons f d ds A xs))
    (cong_trans
    (sum_cong (suc d) (λ e q.
    cong_mul (r _ _ e (h 0 (zero-lt-suc (length ds)))) (eval_cong_point f ds (λ es. A (e ∷ es)) (drop 1 xs) (drop 1 ys) r rest)))
    (cong_of_eq m (sym (eval-cons f d ds A ys))))
  where
    rest : (i : ℕ) → i < length ds → Cong m (at (drop 1 xs) i) (at (drop 1 ys) i)
    rest i p = cong_trans (cong_of_eq m (at_drop xs i)) (cong_trans (h (suc i) (suc-le-suc p)) (cong_of_eq m (sym (at_drop ys i))))

-- ---- change of basis

-- Where, for each variable, the sum of f x j * t j k over j is g x k, the coefficients that t makes of a, evaluated by f, give what a gives
-- evaluated by g.
pub eval_change : {m : ℕ} (f t g : ℕ → ℕ → ℕ) {ds : List ℕ} (a : List ℕ → ℕ) {xs : List ℕ}
    → Each (λ d x. (k : ℕ) → k ≤ d → Cong m (sum (suc d) (λ j. f x j * t j k)) (g x k)) ds xs
    → Cong m (eval f ds (λ js. eval t ds a js) xs) (eval g ds a xs)
eval_change {m} f t g a {xs} done = cong_of_eq m (eval-nil f (λ js. eval t [] a js) xs ∙ eval-nil t a [] ∙ sym (eval-nil g a xs))
eval_change {m} f t g a {xs} (more {d} {ds} p r) =
    cong_trans (cong_of_eq m (unfolded ∙ swapped))
    (cong_trans
    (sum_cong (suc d) (λ k q. cong_mul (p k (le_of_suc-le-suc q)) (eval_change f t g (λ ks. a (k ∷ ks)) r)))
    (cong_of_eq m (sym (eval-cons g d ds a xs))))
  where
    x : ℕ
    x = at xs 0

    inner : ℕ → ℕ
    inner k = eval f ds (λ js. eval t ds (λ ks. a (k ∷ ks)) js) (drop 1 xs)

    unfolded : eval f (d ∷ ds) (λ js. eval t (d ∷ ds) a js) xs ≡ sum (suc d) (λ j. f x j * sum (suc d) (λ k. t j k * inner k))
    unfolded =
        eval-cons f d ds (λ js. eval t (d ∷ ds) a js) xs
        ∙ sum_eq (suc d) (λ j q. ap (f x j *◌)
        (eval-eq f ds (drop 1 xs) (λ js w. eval-cons t d ds a (j ∷ js))
        ∙ eval-sum f ds (suc d) (t j) (λ k js. eval t ds (λ ks. a (k ∷ ks)) js) (drop 1 xs)))

    swapped : sum (suc d) (λ j. f x j * sum (suc d) (λ k. t j k * inner k)) ≡ sum (suc d) (λ k. sum (suc d) (λ j. f x j * t j k) * inner k)
    swapped =
        sum_eq (suc d) (λ j q. sym (sum-mul-left (suc d) (f x j) (λ k. t j k * inner k)))
        ∙ sum_swap (suc d) (suc d) (λ j k. f x j * (t j k * inner k))
        ∙ sum_eq (suc d) (λ k q. sum_eq (suc d) (λ j r. omega arith) ∙ sum-mul_right (suc d) (inner k) (λ j. f x j * t j k))

-- ---- the value of a coefficient box

-- the value is the evaluation by falling factorials
pub value-eq-eval : (m : ℕ) (ds c xs : List ℕ) → value m ds c xs ≡ eval falling ds (λ es. at c (cell ds es)) xs % m
unfolding eval value
value-eq-eval m ds c xs =
    ap (◌% m)
    (sum_eq (cells ds) (λ n p. ap (λ (i : ℕ). product falling (length ds) xs (digits ds n) * at c i) (sym (cell-digits ds n p)))
    ∙ sym (box_sum-eq-sum ds (λ es. product falling (length ds) xs es * at c (cell ds es))))

-- ---- Newton's series in several variables

module _ {m : ℕ} (pos : 0 < m) where
  -- a function on the grid is the series of its differences
  pub differences_expansion : {ds xs : List ℕ} (v : List ℕ → ℕ) → Within ds xs → Cong m (v xs) (eval choose ds (differences m ds v) xs)
  unfolding differences series
  differences_expansion v none = cong_of_eq m (sym (eval-nil choose (differences m [] v) []))
  differences_expansion v (next {d} {e} {ds} {es} p w) =
      cong_trans (newton_expansion pos d (λ y. v (y ∷ es)) e p)
      (cong_trans
      (sum_cong (suc d) (λ k q. cong_mul-left (choose e k) (differences_expansion (λ ys. diffs m k (λ y. v (y ∷ ys)) 0) w)))
      (cong_of_eq m (sym (eval-cons choose d ds (differences m (d ∷ ds) v) (e ∷ es)))))

  -- and of no other coefficients
  pub differences_unique : {ds es : List ℕ} (v A : List ℕ → ℕ)
      → ((xs : List ℕ) → Within ds xs → Cong m (v xs) (eval choose ds A xs)) → Within ds es → Cong m (A es) (differences m ds v es)
  unfolding differences series
  differences_unique v A h none = cong_sym (cong_trans (h [] none) (cong_of_eq m (eval-nil choose A [])))
  differences_unique v A h (next {d} {e} {ds} {es} p w) =
      differences_unique (λ ys. diffs m e (λ y. v (y ∷ ys)) 0) (λ ks. A (e ∷ ks)) line w
    where
      line : (xs : List ℕ) → Within ds xs → Cong m (diffs m e (λ y. v (y ∷ xs)) 0) (eval choose ds (λ ks. A (e ∷ ks)) xs)
      line xs u =
          cong_sym
          (newton_unique pos d e (λ y. v (y ∷ xs)) (λ k. eval choose ds (λ ks. A (k ∷ ks)) xs)
          (λ x q. cong_trans (h (x ∷ xs) (next q u)) (cong_of_eq m (eval-cons choose d ds A (x ∷ xs))))
          p)

  -- differences depend on the function on the grid, modulo m
  pub differences_cong : {ds es : List ℕ} {v w : List ℕ → ℕ}
      → ((xs : List ℕ) → Within ds xs → Cong m (v xs) (w xs)) → Within ds es → Cong m (differences m ds v es) (differences m ds w es)
  differences_cong {ds} {es} {v} {w} h =
      differences_unique w (differences m ds v) (λ xs u. cong_trans (cong_sym (h xs u)) (differences_expansion v u))

-- differences modulo a multiple of n are, modulo n, those modulo n
pub differences_of_mul : (n k : ℕ) {ds es : List ℕ} (v : List ℕ → ℕ) → 0 < n → 0 < k → Within ds es
    → Cong n (differences (n * k) ds v es) (differences n ds v es)
differences_of_mul n k {ds} v p q =
    differences_unique p v (differences (n * k) ds v) (λ xs u. cong_of_mul n k (differences_expansion (mul-pos p q) v u))
