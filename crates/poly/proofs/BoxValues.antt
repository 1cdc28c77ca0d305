-- The value of a box from falling products in a table: of a line, and by a walk over the sub-boxes, which has the total of the sub-boxes before it.
use Rattle.std.proofs.Common.{◌≡◌, ℕ, suc, ◌+◌, ◌-◌, ◌*◌, ◌%◌, ◌^◌, ◌<◌, ◌≤◌, List, [], ◌∷◌, length, sym, refl, ap, ◌∙◌, le_trans, add-zero, mul-le-mul_right, mod-eq_of_lt, one-mul, zero-mul, mul-one, suc-ne-zero, add-one, arith, get_or-take}
use Rattle.std.proofs.Math.Nat.{zero-mod, suc_inj}
use Rattle.meaning.specs.Tables.{at}
use Rattle.meaning.specs.Sums.{sum}
use Rattle.meaning.specs.Factorials.{falling}
use Rattle.meaning.specs.Boxes.{cells, digits}
use Rattle.meaning.specs.Values.{product, value}
use Rattle.theory.specs.Congruence.{Cong, cong_of_eq, cong_refl, cong_sym, cong_trans, cong_add, cong_add-left, cong_mul, cong_mul_right, mod-cong}
use Rattle.theory.specs.FallingProducts.{zero_stays}
use Rattle.theory.specs.Sums.{sum_last, sum_cong, sum_split, sum-zero}
use Rattle.theory.specs.Words.{cong_of_pow, low_bits}
use Rattle.theory.specs.LastVariable.{others, final, addend, value_last, length-others}
use Rattle.theory.specs.Parts.{part}
use Rattle.box_rows.specs.Walks.{Walk, walk_exponent, walk_part, walk_done}
use Rattle.poly.specs.Shapes.{Products, HasValue, Shaped}

-- ---- a line

-- the cells before cell i are added, modulo 2^64
pub record Added (c table : List ℕ) (total i : ℕ) : Type 0 where
  pub few : i ≤ length c
  pub sums : total ≡ sum i (λ n. at table n * at c n) % 2 ^ 64

module _ {c table : List ℕ} where
  pub added_start : Added c table 0 0
  unfolding sum
  added_start = record { few = omega arith; sums = refl }

  pub added_next : {total i total' p : ℕ} → Added c table total i → i < length c → p ≡ (at table i * at c i) % 2 ^ 64 → total' ≡ (total + p) % 2 ^ 64
      → Added c table total' (i + 1)
  added_next {total} {i} {total'} {p} r h q t =
      let F : ℕ → ℕ = λ n. at table n * at c n in
      let old : Cong (2 ^ 64) total (sum i F) = cong_trans (cong_of_eq (2 ^ 64) r.sums) (mod-cong (2 ^ 64) (sum i F)) in
      let new : Cong (2 ^ 64) p (F i) = cong_trans (cong_of_eq (2 ^ 64) q) (mod-cong (2 ^ 64) (F i)) in
      record {
        few = omega arith;
        sums = t ∙ (cong_add old new).same ∙ ap (◌% 2 ^ 64) (sym (ap (λ (n : ℕ). sum n F) (add-one i) ∙ sum_last i F));
      }

-- a box with one variable is a line
pub line-fits : {size : ℕ} (ds : List ℕ) {c : List ℕ} {room : ℕ} → length ds ≡ 1 → Shaped size ds c → length ds * size ≤ room → length c ≤ room
unfolding cells
line-fits [] e s h = absurd (suc-ne-zero 0 (sym e))
line-fits {size} (d ∷ []) {c} {room} e s h = omega (arith, s.whole, s.below 0 (omega arith), h, one-mul size)
line-fits (d ∷ (y ∷ ys)) e s h = absurd (suc-ne-zero (length ys) (suc_inj e))

pub line-value : (size : ℕ) (ds c table : List ℕ) {r : ℕ} → length ds ≡ 1 → Shaped size ds c → r ≡ sum (length c) (λ n. at table n * at c n) % 2 ^ 64
    → HasValue size ds c table r
unfolding value product cells digits
line-value size [] c table e s q w xs h p = absurd (suc-ne-zero 0 (sym e))
line-value size (d ∷ []) c table {r} e s q w xs h p =
    let n : length c ≡ 1 * suc d = s.whole in
    ap (◌% 2 ^ w) q
    ∙ low_bits (sum (length c) (λ n. at table n * at c n)) w h
    ∙ ap (λ (k : ℕ). sum k (λ n. at table n * at c n) % 2 ^ w) n
    ∙ (sum_cong {m = 2 ^ w} (1 * suc d) {f = λ n. at table n * at c n}
    {g = λ n. falling (at xs 0) (n % suc d) * 1 * at c n} one).same
  where
    one : (n : ℕ) → n < 1 * suc d → Cong (2 ^ w) (at table n * at c n) (falling (at xs 0) (n % suc d) * 1 * at c n)
    one n l =
        let small : n < suc d = omega arith in
        let place : 0 * size + n ≡ n = omega (arith, zero-mul size) in
        let read : at table n ≡ falling (at xs 0) n % 2 ^ w =
        ap (at table) (sym place) ∙ p 0 n (omega arith) (le_trans small (s.below 0 (omega arith))) in
        cong_mul_right (at c n)
        (cong_trans (cong_of_eq (2 ^ w) read)
        (cong_trans (mod-cong (2 ^ w) (falling (at xs 0) n))
        (cong_of_eq (2 ^ w) (sym (mul-one (falling (at xs 0) (n % suc d)) ∙ ap (falling (at xs 0)) (mod-eq_of_lt small))))))
line-value size (d ∷ (y ∷ ys)) c table e s q w xs h p = absurd (suc-ne-zero (length ys) (suc_inj e))

-- ---- sub-boxes

-- the place in the table of the last variable's falling product to the exponent e
abbrev pub last_place : List ℕ → ℕ → ℕ → ℕ
last_place ds size e = (length ds - 1) * size + e

-- the total of the sub-boxes below the last exponent e, modulo as many bits as the falling products in the table have
pub record Summed (ds c table : List ℕ) (size total e : ℕ) : Type 0 where
  pub sums : (w : ℕ) (xs : List ℕ) → w ≤ 64 → Products w (length ds) size xs table → Cong (2 ^ w) total (sum e (addend (2 ^ w) ds c xs))

module _ {size : ℕ} {ds c : List ℕ} (s : Shaped size ds c) where
  -- the places of the last variable are the last of the table
  pub others-fit : {room : ℕ} → length ds * size ≤ room → length (others ds) * size ≤ room
  others-fit h = le_trans (mul-le-mul_right size (omega (arith, length-others ds s.some))) h

  -- a sub-box that is left, and the exponent of its last variable
  module _ {n count e from : ℕ} (walk : Walk ds n count e from) (left : from < n) where
    pub shaped_others : length c ≡ n → (length ds ≡ 1 → ⊥) → Shaped size (others ds) (part from (from + count) c)
    shaped_others l two =
        let k = length-others ds s.some in
        record {
          some = omega (arith, k, s.some, two);
          whole = walk_part walk left c l;
          below = λ j p. rw (get_or-take (length ds - 1) ds j 0 (rw k at p)) (s.below j (omega (arith, k, p)));
        }

    pub exponent_below : e < size
    exponent_below = le_trans (omega (arith, walk_exponent walk left)) (s.below (length ds - 1) (omega (arith, s.some)))

pub summed_start : {ds c table : List ℕ} {size : ℕ} → Summed ds c table size 0 0
unfolding sum
summed_start = record { sums = λ w xs h p. cong_refl 0 }

module _ {size : ℕ} {ds c table : List ℕ} {n count total e from : ℕ} (s : Shaped size ds c) (walk : Walk ds n count e from)
    (r : Summed ds c table size total e) where
  module _ (left : from < n) where
    read : (w : ℕ) (xs : List ℕ) → Products w (length ds) size xs table
        → Cong (2 ^ w) (at table (last_place ds size e)) (falling (at xs (length ds - 1)) e)
    read w xs p =
        cong_trans (cong_of_eq (2 ^ w) (p (length ds - 1) e (omega (arith, s.some)) (exponent_below s walk left)))
        (mod-cong (2 ^ w) (falling (at xs (length ds - 1)) e))

    -- one sub-box more
    pub summed_next : {total' p : ℕ} (inner : ℕ)
        → HasValue size (others ds) (part from (from + count) c) table inner
        → p ≡ (at table (last_place ds size e) * inner) % 2 ^ 64
        → total' ≡ (total + p) % 2 ^ 64
        → Summed ds c table size total' (e + 1)
    summed_next {total'} {p} inner f q t = record { sums = next }
      where
        next : (w : ℕ) (xs : List ℕ) → w ≤ 64 → Products w (length ds) size xs table → Cong (2 ^ w) total' (sum (e + 1) (addend (2 ^ w) ds c xs))
        next w xs h k =
            let m = 2 ^ w in
            let fall = at table (last_place ds size e) in
            let here : inner % m ≡ value m (others ds) (part (e * cells (others ds)) (e * cells (others ds) + cells (others ds)) c) xs =
            f w xs h (λ j i a b. k j i (omega (arith, length-others ds s.some, a)) b)
            ∙ ap (λ (i : ℕ). value m (others ds) (part i (i + count) c) xs) walk.place
            ∙ ap (λ (i : ℕ). value m (others ds) (part (e * i) (e * i + i) c) xs) walk.sized
            in
            let more : sum (e + 1) (addend m ds c xs) ≡ sum e (addend m ds c xs) + addend m ds c xs e =
            ap (λ (n : ℕ). sum n (addend m ds c xs)) (add-one e) ∙ sum_last e (addend m ds c xs)
            in
            let one : Cong m p (addend m ds c xs e) =
            cong_trans (cong_of_pow h (cong_trans (cong_of_eq (2 ^ 64) q) (mod-cong (2 ^ 64) (fall * inner))))
            (cong_mul (read w xs k) (cong_trans (cong_sym (mod-cong m inner)) (cong_of_eq m here)))
            in
            cong_trans (cong_of_pow h (cong_trans (cong_of_eq (2 ^ 64) t) (mod-cong (2 ^ 64) (total + p))))
            (cong_trans (cong_add (r.sums w xs h k) one) (cong_of_eq m (sym more)))

    -- a falling product that is zero: so are those behind it
    pub summed_stop : at table (last_place ds size e) ≡ 0 → HasValue size ds c table total
    summed_stop z w xs h p =
        let m = 2 ^ w in
        let rest = suc (final ds) - e in
        let F = addend m ds c xs in
        let all : e + rest ≡ suc (final ds) = omega (arith, walk.within) in
        let none : Cong m (sum rest (λ i. F (e + i))) 0 =
        cong_trans (sum_cong {m = m} rest {f = λ i. F (e + i)} {g = λ i. 0} (λ i l. off i)) (cong_of_eq m (sum-zero rest {f = λ i. 0} (λ i l. refl)))
        in
        (cong_trans (r.sums w xs h p)
        (cong_trans (cong_of_eq m (sym (add-zero (sum e F))))
        (cong_trans (cong_add-left (sum e F) (cong_sym none)) (cong_of_eq m (sym (ap (λ (n : ℕ). sum n F) (sym all) ∙ sum_split e rest F)))))).same
        ∙ sym (value_last m ds c xs s.some)
      where
        off : (i : ℕ) → Cong (2 ^ w) (addend (2 ^ w) ds c xs (e + i)) 0
        off i =
            let m = 2 ^ w in
            let x = at xs (length ds - 1) in
            let k = cells (others ds) in
            let v = value m (others ds) (part ((e + i) * k) ((e + i) * k + k) c) xs in
            let first : falling x e % m ≡ 0 = sym (read w xs p).same ∙ ap (◌% m) z ∙ zero-mod m in
            let none : Cong m (falling x (e + i)) 0 = record { same = zero_stays m x (e + i) (omega arith) first ∙ sym (zero-mod m) } in
            cong_trans (cong_mul_right v none) (cong_of_eq m (zero-mul v))

  -- none is left
  pub summed_done : n ≤ from → HasValue size ds c table total
  summed_done h w xs l k =
      (r.sums w xs l k).same
      ∙ ap (λ (i : ℕ). sum i (addend (2 ^ w) ds c xs) % 2 ^ w) (walk_done walk h)
      ∙ sym (value_last (2 ^ w) ds c xs s.some)
