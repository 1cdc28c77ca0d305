-- Laws of boxes: cell numbers and exponent lists correspond, and a sum over a box is a flat sum over its cells.
-- Every law is an induction over the variables. A cell number is `cell ds es * suc d + e`, so each step is division by suc d with remainder.
use Rattle.std.specs.Prelude.{◌≡◌, refl, ℕ, zero, suc, ◌+◌, ◌*◌, ◌/◌, ◌%◌, ◌^◌, ◌≤◌, ◌<◌, List, [], ◌∷◌, length, replicate}
use Rattle.std.proofs.Common.{sym, ap, ap₂, ◌∙◌, suc-le-suc, zero-lt-suc, le_of_suc-le-suc, le_refl, mod-lt, mul-pos, div-add-mod', div-lt_iff_lt-mul, pow-suc, arith}
use Rattle.std.proofs.Math.Nat.{pow-zero}
use Rattle.std.proofs.Math.Arith.{digits_lt, digits_div, digits_mod}
use Rattle.meaning.specs.Tables.{at}
use Rattle.meaning.specs.Sums.{sum}
use Rattle.meaning.specs.Boxes.{cells, digits, cell, Within, none, next, box_sum}
use Rattle.theory.specs.Congruence.{Cong}
use Rattle.theory.specs.Sums.{sum_eq, sum_cong, sum-add, sum-mul-left, sum-zero, sum_swap, sum-blocks}

-- a box has a cell
pub cells_pos : (ds : List ℕ) → 0 < cells ds
unfolding cells
cells_pos [] = zero-lt-suc 0
cells_pos (d ∷ ds) = mul-pos (cells_pos ds) (zero-lt-suc d)

-- a box with one degree
pub cells_power : (k d : ℕ) → cells (replicate k d) ≡ suc d ^ k
unfolding cells
cells_power zero d = sym (pow-zero (suc d))
cells_power (suc k) d = ap (◌* suc d) (cells_power k d) ∙ sym (pow-suc (suc d) k)

-- the list of a cell number lies within the box
pub digits-within : (ds : List ℕ) (n : ℕ) → Within ds (digits ds n)
unfolding digits
digits-within [] n = none
digits-within (d ∷ ds) n = next (le_of_suc-le-suc (mod-lt n (zero-lt-suc d))) (digits-within ds (n / suc d))

-- a list within the box has an exponent for each variable
pub length-within : {ds es : List ℕ} → Within ds es → length es ≡ length ds
length-within none = refl
length-within (next p w) = ap suc (length-within w)

-- and none is above its degree
pub within-at : {ds es : List ℕ} → Within ds es → (i : ℕ) → at es i ≤ at ds i
within-at none i = le_refl 0
within-at (next p w) zero = p
within-at (next p w) (suc i) = within-at w i

pub length_digits : (ds : List ℕ) (n : ℕ) → length (digits ds n) ≡ length ds
length_digits ds n = length-within (digits-within ds n)

-- a list's cell is one of the box
pub cell-lt : {ds es : List ℕ} → Within ds es → cell ds es < cells ds
unfolding cell cells
cell-lt none = zero-lt-suc 0
cell-lt (next p w) = digits_lt (cell-lt w) (suc-le-suc p)

-- the cell of a cell's list is that cell
pub cell-digits : (ds : List ℕ) (n : ℕ) → n < cells ds → cell ds (digits ds n) ≡ n
unfolding cell digits cells
cell-digits [] n h = omega arith
cell-digits (d ∷ ds) n h =
    ap (λ (q : ℕ). q * suc d + n % suc d) (cell-digits ds (n / suc d) ((div-lt_iff_lt-mul (zero-lt-suc d)).1 h)) ∙ div-add-mod' n (suc d)

-- the list of a list's cell is that list
pub digits-cell : {ds es : List ℕ} → Within ds es → digits ds (cell ds es) ≡ es
unfolding cell digits
digits-cell none = refl
digits-cell (next {d} {e} {ds} {es} p w) =
    ap₂ ◌∷◌ (digits_mod (cell ds es) (suc-le-suc p)) (ap (digits ds) (digits_div (cell ds es) (suc-le-suc p)) ∙ digits-cell w)

-- ---- sums over a box

-- sums of terms that are equal within the box
pub box_sum-eq : (ds : List ℕ) {f g : List ℕ → ℕ} → ((es : List ℕ) → Within ds es → f es ≡ g es) → box_sum ds f ≡ box_sum ds g
unfolding box_sum
box_sum-eq [] h = h [] none
box_sum-eq (d ∷ ds) h = sum_eq (suc d) (λ e p. box_sum-eq ds (λ es w. h (e ∷ es) (next (le_of_suc-le-suc p) w)))

-- sums of terms that are congruent within the box
pub box_sum_cong : {m : ℕ} (ds : List ℕ) {f g : List ℕ → ℕ}
    → ((es : List ℕ) → Within ds es → Cong m (f es) (g es)) → Cong m (box_sum ds f) (box_sum ds g)
unfolding box_sum
box_sum_cong [] h = h [] none
box_sum_cong (d ∷ ds) h = sum_cong (suc d) (λ e p. box_sum_cong ds (λ es w. h (e ∷ es) (next (le_of_suc-le-suc p) w)))

-- a sum of sums of two terms
pub box_sum-add : (ds : List ℕ) (f g : List ℕ → ℕ) → box_sum ds (λ es. f es + g es) ≡ box_sum ds f + box_sum ds g
unfolding box_sum
box_sum-add [] f g = refl
box_sum-add (d ∷ ds) f g =
    sum_eq (suc d) (λ e p. box_sum-add ds (λ es. f (e ∷ es)) (λ es. g (e ∷ es)))
    ∙ sum-add (suc d) (λ e. box_sum ds (λ es. f (e ∷ es))) (λ e. box_sum ds (λ es. g (e ∷ es)))

-- a factor of every term, on the left and on the right
pub box_sum-mul-left : (ds : List ℕ) (c : ℕ) (f : List ℕ → ℕ) → box_sum ds (λ es. c * f es) ≡ c * box_sum ds f
unfolding box_sum
box_sum-mul-left [] c f = refl
box_sum-mul-left (d ∷ ds) c f =
    sum_eq (suc d) (λ e p. box_sum-mul-left ds c (λ es. f (e ∷ es))) ∙ sum-mul-left (suc d) c (λ e. box_sum ds (λ es. f (e ∷ es)))

-- a sum of zeros
pub box_sum-zero : (ds : List ℕ) {f : List ℕ → ℕ} → ((es : List ℕ) → Within ds es → f es ≡ 0) → box_sum ds f ≡ 0
unfolding box_sum
box_sum-zero [] h = h [] none
box_sum-zero (d ∷ ds) h = sum-zero (suc d) (λ e p. box_sum-zero ds (λ es w. h (e ∷ es) (next (le_of_suc-le-suc p) w)))

-- a sum and a sum over a box change places
pub sum-box_sum : (n : ℕ) (ds : List ℕ) (f : ℕ → List ℕ → ℕ) → sum n (λ i. box_sum ds (λ es. f i es)) ≡ box_sum ds (λ es. sum n (λ i. f i es))
unfolding box_sum
sum-box_sum n [] f = refl
sum-box_sum n (d ∷ ds) f =
    sum_swap n (suc d) (λ i e. box_sum ds (λ es. f i (e ∷ es))) ∙ sum_eq (suc d) (λ e p. sum-box_sum n ds (λ i es. f i (e ∷ es)))

-- the sum over a box is the flat sum over its cells
pub box_sum-eq-sum : (ds : List ℕ) (f : List ℕ → ℕ) → box_sum ds f ≡ sum (cells ds) (λ n. f (digits ds n))
unfolding box_sum digits cells sum
box_sum-eq-sum [] f = omega arith
box_sum-eq-sum (d ∷ ds) f =
    sum_eq (suc d) (λ e p. box_sum-eq-sum ds (λ es. f (e ∷ es)))
    ∙ sum_swap (suc d) (cells ds) (λ e n. f (e ∷ digits ds n))
    ∙ sym (sum-blocks (cells ds) (suc d) (λ n. f (digits (d ∷ ds) n)) ∙ sum_eq (cells ds) (λ i p. sum_eq (suc d) (λ j q. ap f (parts i j q))))
  where
    parts : (i j : ℕ) → j < suc d → digits (d ∷ ds) (i * suc d + j) ≡ j ∷ digits ds i
    parts i j q = ap₂ ◌∷◌ (digits_mod i q) (ap (digits ds) (digits_div i q))
