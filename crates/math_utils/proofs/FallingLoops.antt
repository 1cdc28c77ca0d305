-- The loops of the falling products: the product so far, whether it is zero modulo 2^w, and what the answer says.
use Rattle.std.proofs.Common.{◌≡◌, ℕ, ◌+◌, ◌-◌, ◌*◌, ◌%◌, ◌^◌, ◌<◌, ◌≤◌, min, Bool, true, false, cond, List, length, set, sym, refl, ap, ◌∙◌, subst, ap₂, ⊎_elim, true≢false, zero-le, le_trans, le_of_eq, le_refl, not-suc-le-zero, mod-eq_of_lt, pos_of_ne-zero, suc-ne-zero, arith, get_or-set_same}
use Rattle.std.specs.Prelude.{bit_and}
use Rattle.std.proofs.Math.Nat.{mod-le}
use Rattle.std.proofs.Math.Pow.{pow-lt}
use Rattle.meaning.specs.Tables.{at, tabulate}
use Rattle.meaning.specs.Factorials.{falling, taken_from, taken}
use Rattle.meaning.specs.Settings.{fits_width}
use Rattle.meaning.specs.Leaves.{FallingReply, falling_told, falling_reply, products_reply, products_left}
use Rattle.meaning.specs.Replies.{accepted}
use Rattle.theory.specs.Ranges.{between-true, between-low, between-high}
use Rattle.theory.specs.Words.{masked_low, masked_to}
use Rattle.theory.specs.Tables.{Filled, filled_done, eq-tabulate, length-tabulate, at-tabulate-zero}
use Rattle.theory.specs.Parts.{part, put, length_part, filled_part}
use Rattle.theory.specs.FallingProducts.{falling_next, zero_stays, taken-low, taken_is, taken-eq, taken_cap, Taking, taking_start, taking_low, taking_next, taking_zero, taking_all}
use Rattle.math_utils.specs.Falling.{Stops}

-- c of n factors are taken, with the product p, and none so far is zero modulo 2^w; the mask keeps w bits
pub record Product (w x n mask p c : ℕ) : Type 0 where
  pub narrow : w ≤ 64
  pub masks : mask ≡ 2 ^ min w 64 - 1
  pub taking : Taking (2 ^ w) x n c
  pub so_far : p ≡ falling x c % 2 ^ 64

module _ {w x n mask : ℕ} where
  pub product-start : 1 ≤ w → w ≤ 64 → mask ≡ 2 ^ min w 64 - 1 → Product w x n mask 1 0
  unfolding falling
  product-start low high e = record { narrow = high; masks = e; taking = taking_start (pow-lt low); so_far = refl }

  module _ {p c : ℕ} (r : Product w x n mask p c) where
    pub product-low : c ≤ x
    product-low = taking_low r.taking

    -- what the mask keeps of the product so far
    pub product_here : bit_and p mask ≡ falling x c % 2 ^ w
    product_here = ap₂ bit_and r.so_far r.masks ∙ masked_to (falling x c) w r.narrow

    -- the mask keeps no more than there is
    pub product_le : (q : ℕ) → bit_and q mask ≤ q
    product_le q = le_trans (le_of_eq (ap (bit_and q) r.masks ∙ masked_low q w r.narrow)) (mod-le q (2 ^ w))

    -- one factor more, and what the mask keeps of it
    module _ {q : ℕ} (e : q ≡ (p * (x - c)) % 2 ^ 64) where
      more : q ≡ falling x (c + 1) % 2 ^ 64
      more = e ∙ falling_next (2 ^ 64) x c p r.so_far

      pub product-kept : bit_and q mask ≡ falling x (c + 1) % 2 ^ w
      product-kept = ap₂ bit_and more r.masks ∙ masked_to (falling x (c + 1)) w r.narrow

      pub product_next : c < n → (bit_and q mask ≡ 0 → ⊥) → Product w x n mask q (c + 1)
      product_next h z =
          record {
            narrow = r.narrow;
            masks = r.masks;
            taking = taking_next r.taking h (pos_of_ne-zero (λ o. z (product-kept ∙ o)));
            so_far = more;
          }

      -- it is zero: so are all that follow
      pub product_stop : c < n → bit_and q mask ≡ 0 → c + 1 ≡ taken w x n
      product_stop h z = taken-eq w x n (taking_zero r.taking h (sym product-kept ∙ z))

      pub product-zero : {k : ℕ} → c + 1 ≤ k → bit_and q mask ≡ 0 → falling x k % 2 ^ w ≡ 0
      product-zero {k} h z = zero_stays (2 ^ w) x k h (sym product-kept ∙ z)

    -- all are taken
    pub product-all : n ≤ c → n ≡ taken w x n
    product-all h =
        let e : n ≡ c = omega (arith, r.taking.few) in
        e ∙ taken-eq w x n (taking_all r.taking h)

    pub product_whole : n ≤ c → bit_and p mask ≡ falling x n % 2 ^ w
    product_whole h =
        let e : c ≡ n = omega (arith, r.taking.few) in
        product_here ∙ ap (λ (k : ℕ). falling x k % 2 ^ w) e

-- ---- the table

-- the product of k factors
abbrev products : ℕ → ℕ → ℕ → ℕ
products w x k = falling x k % 2 ^ w

module _ (w x : ℕ) where
  -- the product of no factor
  pub table-start : (t : List ℕ) → 0 < length t → 1 ≤ w → Filled (products w x) (set t 0 1) (set t 0 1) 1
  unfolding falling
  table-start t h low =
      record {
        same = refl;
        below = λ i p.
            let z : i ≡ 0 = omega arith in
            ap (at (set t 0 1)) z ∙ get_or-set_same t 0 1 0 h ∙ sym (mod-eq_of_lt (pow-lt low)) ∙ ap (λ (k : ℕ). falling x k % 2 ^ w) (sym z);
        above = λ i p. refl;
      }

  -- zeros behind the factors that were taken
  pub table-zeros : (t₀ t ys : List ℕ) {c : ℕ} → Filled (products w x) t₀ t c → c ≤ length t → ys ≡ tabulate (length (part c (length t) t)) (λ k. 0)
      → ((k : ℕ) → c ≤ k → products w x k ≡ 0) → Filled (products w x) t₀ (put c (length t) t ys) (length t)
  table-zeros t₀ t ys {c} r h e z =
      let long = length_part c (length t) t (le_refl (length t)) in
      filled_part (products w x) t₀ t c (length t) ys r h (le_refl (length t)) (ap length e ∙ length-tabulate _ _ ∙ long)
      (λ i p. ap (λ (l : List ℕ). at l i) e ∙ at-tabulate-zero _ i ∙ sym (z (c + i) (omega arith)))

  -- a table that is filled
  pub table_done : (t₀ t : List ℕ) {c n : ℕ} → Filled (products w x) t₀ t c → n ≤ c → length t₀ ≡ n → t ≡ tabulate n (products w x)
  table_done t₀ t {c} {n} r h e = filled_done (products w x) t₀ t c r (omega arith) ∙ ap (λ (k : ℕ). tabulate k (products w x)) e

-- ---- the promise

pub stops : (w x n : ℕ) → Stops w x n (falling_reply w x n)
unfolding fits_width
stops w x n = go (fits_width w) refl
  where
    go : (b : Bool) → fits_width w ≡ b → Stops w x n (cond b (falling_told 0 (falling x n % 2 ^ w) (taken w x n)) (falling_told 11 0 0))
    go true e =
        let t = taken_is w x n in
        record {
          accepts = λ l h. refl;
          refuses = λ o. absurd (true≢false (sym e ∙ ⊎_elim (λ (l : w < 2). between-low 2 64 w l) (λ (h : 64 < w). between-high 2 64 w h) o));
          whole = λ z. refl;
          stops = λ z. t.stops;
          least = λ z. t.least;
          few = (t.few, taken-low t, taken_cap w x t);
        }
    go false e =
        record {
          accepts = λ l h. absurd (true≢false (sym (between-true 2 64 w l h) ∙ e));
          refuses = λ o. refl;
          whole = λ z. absurd (suc-ne-zero 10 z);
          stops = λ z. absurd (suc-ne-zero 10 z);
          least = λ z. absurd (suc-ne-zero 10 z);
          few = (zero-le, zero-le, zero-le);
        }

-- ---- what is said of a width that fits

module _ (w x : ℕ) (f : fits_width w ≡ true) where
  pub falling-fits : (n : ℕ) {p t : ℕ} → p ≡ falling x n % 2 ^ w → t ≡ taken w x n → falling_told 0 p t ≡ falling_reply w x n
  falling-fits n a b = simp f (ap₂ (falling_told 0) a b)

  pub products-fit : (lent : List ℕ) {n t : ℕ} {left : List ℕ} → n ≡ length lent - 1 → t ≡ taken w x n
      → left ≡ tabulate (length lent) (products w x) → (accepted t ≡ products_reply w x (length lent)) × (left ≡ products_left w x lent)
  products-fit lent a b c = (simp f (ap accepted (b ∙ ap (taken w x) a)), simp f c)

  -- an empty table takes no factor
  pub products_none : (lent : List ℕ) → length lent ≡ 0 → (accepted 0 ≡ products_reply w x (length lent)) × (lent ≡ products_left w x lent)
  unfolding taken taken_from
  products_none lent e =
      products-fit lent {n = 0} (omega arith) refl (eq-tabulate lent (length lent) (products w x) refl (λ i h. absurd (not-suc-le-zero (rw e at h))))

-- an answer that says it
pub said_stops : {w x n : ℕ} (r : FallingReply) → r ≡ falling_reply w x n → (r ≡ falling_reply w x n) × Stops w x n r
said_stops {w} {x} {n} r e = (e, subst (Stops w x n) (sym e) (stops w x n))
