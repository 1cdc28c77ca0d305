-- Reading column by column gives a number exactly on the text of that number.
-- The columns read so far are the last columns of what they show, so that each byte of the text can be put back; and the columns of a number's text
-- show its leading digits one after the other.
use Rattle.std.specs.Prelude.{◌≡◌, refl, Bool, true, false, ◌&&◌, cond, List, [], ◌∷◌, ◌++◌, leb, ltb, eqb, length, Option, Some, None, ℕ, zero, suc, ◌+◌, ◌*◌, ◌-◌, ◌/◌, ◌%◌, ◌^◌, ◌≤◌, ◌<◌}
use Rattle.std.proofs.Common.{sym, ◌∙◌, ap, ap₂, subst, append_assoc, append-nil, suc-ne-zero, arith, leb-true, ltb-true, eqb-true, le-leb, lt-ltb, ne_eqb}
use Rattle.std.proofs.Math.Nat.{pow-succ'}
use Rattle.bench_file.specs.Text.{shown, columns, number}
use Rattle.bench_file.specs.Columns.{with_last_digit, not_zero, with_column_of, and_then, with_columns}

-- what one more digit makes
pub record Digit (v b n : ℕ) : Type 0 where
  pub low : 48 ≤ b
  pub high : b ≤ 57
  pub value : n ≡ v * 10 + (b - 48)
  pub small : n < 2 ^ 64

pub ill_is_no_number : {n : ℕ} → None ≡ Some n → ⊥
ill_is_no_number e = let z : ◌≡◌ {A = ℕ} 0 1 = cc in omega arith

pub digit_of : (v b n : ℕ) → with_last_digit v b ≡ Some n → Digit v b n
unfolding with_last_digit
digit_of v b n e = go (leb 48 b) (leb b 57) (ltb (v * 10 + (b - 48)) (2 ^ 64)) refl refl refl e
  where
    go : (p q r : Bool) → leb 48 b ≡ p → leb b 57 ≡ q → ltb (v * 10 + (b - 48)) (2 ^ 64) ≡ r
        → cond ((p && q) && r) (Some (v * 10 + (b - 48))) None ≡ Some n → Digit v b n
    go false q r hp hq hr e = absurd (ill_is_no_number e)
    go true false r hp hq hr e = absurd (ill_is_no_number e)
    go true true false hp hq hr e = absurd (ill_is_no_number e)
    go true true true hp hq hr e =
        let same : n ≡ v * 10 + (b - 48) = cc in
        record { low = leb-true 48 b hp; high = leb-true b 57 hq; value = same; small = rw same (ltb-true _ _ hr) }

pub with_digit_of : (v b n : ℕ) → Digit v b n → with_last_digit v b ≡ Some n
unfolding with_last_digit
with_digit_of v b n d =
    simp (le-leb 48 b d.low, le-leb b 57 d.high, lt-ltb (v * 10 + (b - 48)) (2 ^ 64) (omega (arith, d.small, d.value)))
    (ap Some (sym d.value))

pub no_digit : (v b : ℕ) → ((n : ℕ) → Digit v b n → ⊥) → with_last_digit v b ≡ None
no_digit v b h = go (with_last_digit v b) refl
  where
    go : (f : Option ℕ) → with_last_digit v b ≡ f → with_last_digit v b ≡ None
    go (Some n) e = absurd (h n (digit_of v b n e))
    go None e = e

-- the last column
pub digit_shown : (n : ℕ) → n < 2 ^ 64 → with_last_digit (n / 10) (48 + n % 10) ≡ Some n
digit_shown n h =
    with_digit_of (n / 10) (48 + n % 10) n (record { low = omega arith; high = omega arith; value = omega arith; small = h })

pub digit_text : (v b n : ℕ) → with_last_digit v b ≡ Some n → columns 20 v ++ (b ∷ []) ≡ number n
unfolding number
digit_text v b n e =
    let d = digit_of v b n e in
    let high : v ≡ n / 10 = omega arith in
    let low : b ≡ 48 + n % 10 = omega arith in
    ap₂ (λ (x y : ℕ). columns 20 x ++ (y ∷ [])) high low

-- one of the columns before it
pub column_blank : with_column_of 0 32 ≡ Some 0
unfolding with_column_of
column_blank = refl

pub column_digit : (v b w : ℕ) → with_last_digit v b ≡ Some (suc w) → with_column_of v b ≡ Some (suc w)
unfolding with_column_of not_zero
column_digit v b w e =
    let d = digit_of v b (suc w) e in
    let other : (b ≡ 32 → ⊥) = λ q. omega arith in
    simp (ne_eqb b 32 other, e)

pub column_shown : (n : ℕ) → n < 2 ^ 64 → with_column_of (n / 10) (shown n) ≡ Some n
column_shown zero h = column_blank
column_shown (suc n) h = column_digit _ _ n (digit_shown (suc n) h)

module _ (v b : ℕ) (other : b ≡ 32 → ⊥) where
  pub column_leading_zero : (n : ℕ) → with_last_digit v b ≡ Some n → n ≡ 0 → with_column_of v b ≡ None
  unfolding with_column_of not_zero
  column_leading_zero zero e z = simp (ne_eqb b 32 other, e)
  column_leading_zero (suc n) e z = absurd (suc-ne-zero n z)

  pub column_number : (n : ℕ) → with_last_digit v b ≡ Some n → (n ≡ 0 → ⊥) → with_column_of v b ≡ Some n
  column_number zero e z = absurd (z refl)
  column_number (suc n) e z = column_digit v b n e

  pub column_ill : with_last_digit v b ≡ None → with_column_of v b ≡ None
  unfolding with_column_of not_zero
  column_ill e = simp (ne_eqb b 32 other, e)

-- the two ways in which a column is read
pub data Column (v b : ℕ) : ℕ → Type 0 where
  blank : v ≡ 0 → b ≡ 32 → Column v b 0
  digit : {w : ℕ} → Digit v b (suc w) → Column v b (suc w)

pub column_of : (v b w : ℕ) → with_column_of v b ≡ Some w → Column v b w
unfolding with_column_of not_zero
column_of v b w e = go (eqb b 32) (eqb v 0) refl refl e
  where
    nonzero : (f : Option ℕ) → with_last_digit v b ≡ f → not_zero f ≡ Some w → Column v b w
    nonzero (Some zero) h e = absurd (ill_is_no_number e)
    nonzero (Some (suc n)) h e =
        let same : suc n ≡ w = cc in
        subst (λ (x : ℕ). Column v b x) same (digit (digit_of v b (suc n) h))
    nonzero None h e = absurd (ill_is_no_number e)

    go : (p q : Bool) → eqb b 32 ≡ p → eqb v 0 ≡ q
        → cond p (cond q (Some 0) None) (not_zero (with_last_digit v b)) ≡ Some w → Column v b w
    go true true hp hq e =
        let same : 0 ≡ w = cc in
        subst (λ (x : ℕ). Column v b x) same (blank (eqb-true v 0 hq) (eqb-true b 32 hp))
    go true false hp hq e = absurd (ill_is_no_number e)
    go false q hp hq e = nonzero (with_last_digit v b) refl e

pub column_text : (j v b w : ℕ) → Column v b w → columns j v ++ (b ∷ []) ≡ columns (suc j) w
unfolding columns
column_text j v b zero (blank p q) = ap₂ (λ (x y : ℕ). columns j x ++ (y ∷ [])) p q
column_text j v b (suc w) (digit d) =
    let high : v ≡ suc w / 10 = omega arith in
    let low : b ≡ 48 + suc w % 10 = omega arith in
    ap₂ (λ (x y : ℕ). columns j x ++ (y ∷ [])) high low

pub column_small : (v b w : ℕ) → Column v b w → w < 2 ^ 64
column_small v b zero (blank p q) = omega arith
column_small v b (suc w) (digit d) = d.small

-- columns one after the other
pub with_columns-append : (v : ℕ) (xs ys : List ℕ) → with_columns v (xs ++ ys) ≡ and_then (with_columns v xs) (λ w. with_columns w ys)
unfolding with_columns and_then
with_columns-append v [] ys = refl
with_columns-append v (x ∷ xs) ys = go (λ n. with_columns-append n xs ys) (with_column_of v x)
  where
    go : ((n : ℕ) → with_columns n (xs ++ ys) ≡ and_then (with_columns n xs) (λ w. with_columns w ys))
        → (f : Option ℕ)
        → and_then f (λ w. with_columns w (xs ++ ys)) ≡ and_then (and_then f (λ w. with_columns w xs)) (λ w. with_columns w ys)
    go rest (Some n) = rest n
    go rest None = refl

-- the columns of a number's digits show the number
pub columns-shown : (k n : ℕ) → n < 10 ^ k → n < 2 ^ 64 → with_columns 0 (columns k n) ≡ Some n
unfolding columns with_columns and_then
columns-shown zero n h s = let z : n ≡ 0 = omega arith in ap Some (sym z)
columns-shown (suc k) n h s =
    let high : n / 10 < 10 ^ k = omega (arith, rw (pow-succ' 10 k) at h) in
    with_columns-append 0 (columns k (n / 10)) (shown n ∷ [])
    ∙ rw (columns-shown k (n / 10) high (omega arith), column_shown n s)

-- the columns that were read are the last columns of what they show
pub columns_text : (bs : List ℕ) (j k v w : ℕ) → k ≡ j + length bs → with_columns v bs ≡ Some w → columns j v ++ bs ≡ columns k w
unfolding with_columns and_then
columns_text [] j k v w e h =
    let same : v ≡ w = cc in
    append-nil (columns j v) ∙ ap₂ columns (omega (arith, e)) same
columns_text (b ∷ bs) j k v w e h = go (λ x g. columns_text bs (suc j) k x w (omega arith) g) (with_column_of v b) refl h
  where
    go : ((x : ℕ) → with_columns x bs ≡ Some w → columns (suc j) x ++ bs ≡ columns k w) → (f : Option ℕ) → with_column_of v b ≡ f
        → and_then f (λ x. with_columns x bs) ≡ Some w → columns j v ++ (b ∷ bs) ≡ columns k w
    go rest (Some x) c h =
        sym (append_assoc (columns j v) (b ∷ []) bs) ∙ ap (◌++ bs) (column_text j v b x (column_of v b x c)) ∙ rest x h
    go rest None c h = absurd (ill_is_no_number h)

pub columns_small : (bs : List ℕ) (v w : ℕ) → v < 2 ^ 64 → with_columns v bs ≡ Some w → w < 2 ^ 64
unfolding with_columns and_then
columns_small [] v w s h = let same : v ≡ w = cc in omega arith
columns_small (b ∷ bs) v w s h = go (λ x q g. columns_small bs x w q g) (with_column_of v b) refl h
  where
    go : ((x : ℕ) → x < 2 ^ 64 → with_columns x bs ≡ Some w → w < 2 ^ 64) → (f : Option ℕ) → with_column_of v b ≡ f
        → and_then f (λ x. with_columns x bs) ≡ Some w → w < 2 ^ 64
    go rest (Some x) c h = rest x (column_small v b x (column_of v b x c)) h
    go rest None c h = absurd (ill_is_no_number h)
