-- Boxes by their last variable. The cells with last exponent e lie one after the other, from e times the size of the box of the other variables on, and in
-- the order of that box: so a table of the box is a row of tables of the smaller box, and a walk over the cells is a recursion over the last variable.
use Rattle.std.specs.Prelude.{◌≡◌, refl, List, [], ◌∷◌, ◌++◌, ℕ, zero, suc, ◌+◌, ◌*◌, ◌-◌, ◌/◌, ◌%◌, ◌^◌, ◌≤◌, ◌<◌, length, take, drop}
use Rattle.std.proofs.Common.{sym, ◌∙◌, ap₂, suc-le-suc, le_of_suc-le-suc, zero-lt-suc, mod-lt, mod-eq_of_lt, mul_comm, mul_assoc, mul_left_comm, div-add-mod', div-lt_iff_lt-mul, add-one, arith, take-suc, length-take-le, get_or-drop, ap}
use Rattle.std.proofs.Math.Nat.{sub-add-eq, div-eq_of_eq-mul_left}
use Rattle.std.proofs.Math.Arith.{digits_div, digits_mod, lt-one}
use Rattle.std.proofs.Math.Seq.{take-length}
use Rattle.meaning.specs.Tables.{at}
use Rattle.meaning.specs.Sums.{sum}
use Rattle.meaning.specs.Factorials.{factorial, falling, twos}
use Rattle.meaning.specs.Boxes.{cells, digits}
use Rattle.meaning.specs.Values.{product, value, weight, bound}
use Rattle.theory.specs.Congruence.{Cong, cong_of_eq, cong_sym, cong_trans, cong_mul-left, mod-cong}
use Rattle.theory.specs.Sums.{sum_eq, sum_cong, sum-mul-left, sum-blocks}
use Rattle.theory.specs.Boxes.{length_digits}
use Rattle.theory.specs.Parts.{part, part-entry}

-- ---- a variable at the end

-- the sub-boxes of the last variable lie one after the other
pub cells-snoc : (ds : List ℕ) (d : ℕ) → cells (ds ++ (d ∷ [])) ≡ cells ds * suc d
unfolding cells
cells-snoc [] d = refl
cells-snoc (x ∷ xs) d = simp (cells-snoc xs d) (omega arith)

-- cell r of sub-box e
pub digits-snoc : (ds : List ℕ) (d e r : ℕ) → e ≤ d → r < cells ds → digits (ds ++ (d ∷ [])) (e * cells ds + r) ≡ digits ds r ++ (e ∷ [])
unfolding digits cells
digits-snoc [] d e r h p =
    let z : r ≡ 0 = lt-one p in
    ap (◌∷ []) (ap (◌% suc d) (omega arith) ∙ mod-eq_of_lt (suc-le-suc h))
digits-snoc (x ∷ xs) d e r h p =
    let q = r / suc x in
    let small : r % suc x < suc x = mod-lt r (zero-lt-suc x) in
    let whole : e * (cells xs * suc x) + r ≡ (e * cells xs + q) * suc x + r % suc x = omega (arith, div-add-mod' r (suc x)) in
    ap₂ ◌∷◌ (ap (◌% suc x) whole ∙ digits_mod (e * cells xs + q) small)
    (ap (λ (n : ℕ). digits (xs ++ (d ∷ [])) (n / suc x)) whole
    ∙ ap (digits (xs ++ (d ∷ []))) (digits_div (e * cells xs + q) small)
    ∙ digits-snoc xs d e q h ((div-lt_iff_lt-mul (zero-lt-suc x)).1 p))

pub weight-append : (es hs : List ℕ) → weight (es ++ hs) ≡ weight es + weight hs
unfolding weight
weight-append [] hs = omega arith
weight-append (e ∷ es) hs = omega (arith, weight-append es hs)

weight-snoc : (es : List ℕ) (e : ℕ) → weight (es ++ (e ∷ [])) ≡ twos (factorial e) + weight es
unfolding weight
weight-snoc es e = omega (arith, weight-append es (e ∷ []))

product-snoc : (f : ℕ → ℕ → ℕ) (xs es : List ℕ) (e : ℕ) →
    product f (suc (length es)) xs (es ++ (e ∷ [])) ≡ f (at xs (length es)) e * product f (length es) xs es
unfolding product
product-snoc f xs [] e = refl
product-snoc f xs (y ∷ ys) e =
    let rest = product f (length ys) (drop 1 xs) ys in
    let x : at (drop 1 xs) (length ys) ≡ at xs (suc (length ys)) = get_or-drop 1 xs (length ys) 0 ∙ ap (at xs) (one-add (length ys)) in
    ap (f (at xs 0) y *◌) (product-snoc f (drop 1 xs) ys e ∙ ap (λ (n : ℕ). f n e * rest) x)
    ∙ mul_left_comm (f (at xs 0) y) (f (at xs (suc (length ys))) e) rest
  where
    one-add : (n : ℕ) → 1 + n ≡ suc n
    one-add n = omega arith

-- a product with both lists in each other's place
product_swap : (f : ℕ → ℕ → ℕ) (k : ℕ) (xs es : List ℕ) → product f k xs es ≡ product (λ e x. f x e) k es xs
unfolding product
product_swap f zero xs es = refl
product_swap f (suc k) xs es = ap (f (at xs 0) (at es 0) *◌) (product_swap f k (drop 1 xs) (drop 1 es))

-- ---- the last variable and the others

-- the degrees but the last
abbrev pub others : List ℕ → List ℕ
others ds = take (length ds - 1) ds

-- the last degree
abbrev pub final : List ℕ → ℕ
final ds = at ds (length ds - 1)

module _ (ds : List ℕ) (filled : 0 < length ds) where
  pub others-final : ds ≡ others ds ++ (final ds ∷ [])
  others-final =
      let k = length ds - 1 in
      let e : length ds ≡ suc k = omega arith in
      sym (take-length ds) ∙ ap (λ (n : ℕ). take n ds) e ∙ take-suc ds k 0 (omega arith)

  pub length-others : length (others ds) ≡ length ds - 1
  length-others = length-take-le (length ds - 1) ds (omega arith)

  pub cells_last : cells ds ≡ cells (others ds) * suc (final ds)
  cells_last = ap cells others-final ∙ cells-snoc (others ds) (final ds)

  -- the size of a sub-box by division
  pub size_last : (n : ℕ) → n ≡ cells ds → n / (final ds + 1) ≡ cells (others ds)
  size_last n e =
      div-eq_of_eq-mul_left (omega arith) (e ∙ cells_last ∙ ap (cells (others ds) *◌) (sym (add-one (final ds))))

  module _ (e r : ℕ) (p : e ≤ final ds) (q : r < cells (others ds)) where
    digits_last : digits ds (e * cells (others ds) + r) ≡ digits (others ds) r ++ (e ∷ [])
    digits_last =
        ap (λ (l : List ℕ). digits l (e * cells (others ds) + r)) others-final ∙ digits-snoc (others ds) (final ds) e r p q

    -- the bound of a cell of a sub-box
    pub bound_last : (w : ℕ) → bound w (digits ds (e * cells (others ds) + r)) ≡ bound (w - twos (factorial e)) (digits (others ds) r)
    unfolding bound
    bound_last w =
        ap (λ (n : ℕ). 2 ^ (w - n)) (ap weight digits_last ∙ weight-snoc (digits (others ds) r) e)
        ∙ ap (2 ^◌) (sub-add-eq w (twos (factorial e)) (weight (digits (others ds) r)))

    -- the product of a cell of a sub-box
    pub product_last : (f : ℕ → ℕ → ℕ) (xs : List ℕ) → product f (length ds) xs (digits ds (e * cells (others ds) + r))
        ≡ f (at xs (length ds - 1)) e * product f (length (others ds)) xs (digits (others ds) r)
    product_last f xs =
        let es = digits (others ds) r in
        let k : length es ≡ length (others ds) = length_digits (others ds) r in
        let n : length ds ≡ suc (length es) = omega (arith, k, length-others) in
        let l : length es ≡ length ds - 1 = omega arith in
        ap₂ (λ (i : ℕ) (l : List ℕ). product f i xs l) n digits_last
        ∙ product-snoc f xs es e
        ∙ ap₂ (λ (i j : ℕ). f (at xs i) e * product f j xs es) l k

    -- the product at a point of a sub-box
    pub product_point : (f : ℕ → ℕ → ℕ) (es : List ℕ) → product f (length ds) (digits ds (e * cells (others ds) + r)) es
        ≡ f e (at es (length ds - 1)) * product f (length (others ds)) (digits (others ds) r) es
    product_point f es =
        product_swap f (length ds) (digits ds (e * cells (others ds) + r)) es
        ∙ product_last (λ e x. f x e) es
        ∙ ap (f e (at es (length ds - 1)) *◌) (sym (product_swap f (length (others ds)) (digits (others ds) r) es))

-- ---- the value by the last variable

-- what the sub-box of the last exponent e adds to the value
abbrev pub addend : ℕ → List ℕ → List ℕ → List ℕ → ℕ → ℕ
addend m ds c xs e =
    falling (at xs (length ds - 1)) e
    * value m (others ds) (part (e * cells (others ds)) (e * cells (others ds) + cells (others ds)) c) xs

pub value_last : (m : ℕ) (ds c xs : List ℕ) → 0 < length ds → value m ds c xs ≡ sum (suc (final ds)) (addend m ds c xs) % m
unfolding value
value_last m ds c xs h =
    let size = cells (others ds) in
    let d = final ds in
    let F : ℕ → ℕ = λ n. product falling (length ds) xs (digits ds n) * at c n in
    ap (λ (n : ℕ). sum n F % m) (cells_last ds h ∙ mul_comm size (suc d))
    ∙ ap (◌% m) (sum-blocks (suc d) size F)
    ∙ (sum_cong {m = m} (suc d) {f = λ i. sum size (λ j. F (i * size + j))} {g = addend m ds c xs} (λ e p. block e (le_of_suc-le-suc p))).same
  where
    block : (e : ℕ) → e ≤ final ds
        → Cong m (sum (cells (others ds)) (λ j. product falling (length ds) xs (digits ds (e * cells (others ds) + j)) * at c (e * cells (others ds) + j))) (addend m ds c xs e)
    block e p =
        let size = cells (others ds) in
        let x = falling (at xs (length ds - 1)) e in
        let t = part (e * size) (e * size + size) c in
        let G : ℕ → ℕ = λ j. product falling (length (others ds)) xs (digits (others ds) j) * at t j in
        cong_trans
        (cong_of_eq m
        (sum_eq size {g = λ j. x * G j}
        (λ j q. ap₂ ◌*◌ (product_last ds h e j p q falling xs) (sym (part-entry (e * size) (e * size + size) c j (omega arith)))
        ∙ mul_assoc x (product falling (length (others ds)) xs (digits (others ds) j)) (at t j))
        ∙ sum-mul-left size x G))
        (cong_mul-left x (cong_sym (mod-cong m (sum size G))))
