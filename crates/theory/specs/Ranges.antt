-- The test of a range, from what is known of the number, and what is known of a width that calls take: it is 1 to 64, and nothing else is used of it.
use Rattle.std.specs.Prelude.{◌≡◌, refl, Bool, true, false, ◌&&◌, ℕ, ◌≤◌, ◌<◌, leb}
use Rattle.std.proofs.Common.{sym, ◌∙◌, ap, ap₂, true≢false, arith, le-leb, leb-true}
use Rattle.std.proofs.Math.Bool.{and-false}
use Rattle.std.proofs.lemmas.Bool.{lt-leb}
use Rattle.meaning.specs.Replies.{between}
use Rattle.meaning.specs.Settings.{fits_width}

pub between-true : (low high n : ℕ) → low ≤ n → n ≤ high → between low high n ≡ true
between-true low high n h k = ap₂ ◌&&◌ (le-leb low n h) (le-leb n high k)

pub between-low : (low high n : ℕ) → n < low → between low high n ≡ false
between-low low high n h = ap (◌&& leb n high) (lt-leb low n h)

pub between-high : (low high n : ℕ) → high < n → between low high n ≡ false
between-high low high n h = ap (leb low n &&◌) (lt-leb n high h) ∙ and-false (leb low n)

-- both bounds of a number in the range
module _ (low high n : ℕ) (e : between low high n ≡ true) where
  pub ge_of_between : low ≤ n
  ge_of_between = leb-true low n (left (leb low n) (leb n high) e)
    where
      left : (a b : Bool) → (a && b) ≡ true → a ≡ true
      left true b e = refl
      left false b e = absurd (true≢false (sym e))

  pub le_of_between : n ≤ high
  le_of_between = leb-true n high (right (leb low n) (leb n high) e)
    where
      right : (a b : Bool) → (a && b) ≡ true → b ≡ true
      right true b e = e
      right false b e = absurd (true≢false (sym e))

-- ---- the widths that calls take

pub width_pos : (w : ℕ) → fits_width w ≡ true → 1 ≤ w
unfolding fits_width
width_pos w e = omega (arith, ge_of_between _ 64 w e)

pub width_high : (w : ℕ) → fits_width w ≡ true → w ≤ 64
unfolding fits_width
width_high w e = le_of_between _ 64 w e

pub width_above : (w : ℕ) → 64 < w → fits_width w ≡ false
unfolding fits_width
width_above w h = between-high _ 64 w h
