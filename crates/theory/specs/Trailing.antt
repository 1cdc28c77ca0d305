-- The twos of a number, cut at w: t = twosIn w n. 2^t divides n; below w what is left of n is odd; no higher power up to 2^w divides n.
-- Each law is an induction over the digits that are looked at.
use Rattle.std.specs.Prelude.{◌≡◌, ℕ, zero, suc, ◌*◌, ◌/◌, ◌%◌, ◌^◌, ◌≤◌, ◌<◌, min}
use Rattle.std.proofs.Common.{sym, ◌∙◌, ap, ⊎_elim, zero-le, suc-le-suc, not-suc-le-zero, le_of_suc-le-suc, le_refl, le_antisymm, one-mul, mul_assoc, div-add-mod', arith, pow_pos}
use Rattle.std.proofs.Math.Nat.{pow-succ', mul-div_cancel_left, mul-mod_right}
use Rattle.std.specs.Int.Count.{count_trailing_zeros}
use Rattle.meaning.specs.Factorials.{twos_of}
use Rattle.theory.specs.Twos.{even_or_odd, trailing_twos_of}

-- an odd number has none, and an even one has one more than its half
pub twos_of-odd : (d n : ℕ) → n % 2 ≡ 1 → twos_of (suc d) n ≡ 0
unfolding twos_of
twos_of-odd d n e = rw (e, twos_of)

pub twos_of_even : (d n : ℕ) → n % 2 ≡ 0 → twos_of (suc d) n ≡ suc (twos_of d (n / 2))
unfolding twos_of
twos_of_even d n e = rw (e, twos_of)

-- they are w at most
pub twos_of-le : (w n : ℕ) → twos_of w n ≤ w
unfolding twos_of
twos_of-le zero n = zero-le
twos_of-le (suc w) n =
    ⊎_elim (λ (e : n % 2 ≡ 0). rw (twos_of_even w n e) (suc-le-suc (twos_of-le w (n / 2))))
    (λ (e : n % 2 ≡ 1). rw (twos_of-odd w n e) zero-le) (even_or_odd n)

-- n is 2^t times a number that is odd where t is below w
record Parts (w n t : ℕ) : Type 0 where
  rest : ℕ
  whole : n ≡ 2 ^ t * rest
  odd : t < w → rest % 2 ≡ 1

parts : (w n : ℕ) → Parts w n (twos_of w n)
unfolding twos_of
parts zero n = record { rest = n; whole = sym (one-mul n); odd = λ h. absurd (not-suc-le-zero h) }
parts (suc w) n = ⊎_elim (λ (e : n % 2 ≡ 0). even e (parts w (n / 2))) odd (even_or_odd n)
  where
    even : n % 2 ≡ 0 → Parts w (n / 2) (twos_of w (n / 2)) → Parts (suc w) n (twos_of (suc w) n)
    even e r =
        let t = twos_of w (n / 2) in
        let twice : 2 ^ suc t * r.rest ≡ 2 * (2 ^ t * r.rest) = ap (◌* r.rest) (pow-succ' 2 t) ∙ mul_assoc 2 (2 ^ t) r.rest in
        rw (twos_of_even w n e)
        (record { rest = r.rest; whole = omega (arith, r.whole, twice); odd = λ h. r.odd (le_of_suc-le-suc h) })

    odd : n % 2 ≡ 1 → Parts (suc w) n (twos_of (suc w) n)
    odd e = rw (twos_of-odd w n e) (record { rest = n; whole = sym (one-mul n); odd = λ h. e })

-- what is left of n
rest_eq : (w n : ℕ) → n / 2 ^ twos_of w n ≡ (parts w n).rest
rest_eq w n = ap (◌/ 2 ^ twos_of w n) (parts w n).whole ∙ mul-div_cancel_left (parts w n).rest (pow_pos (twos_of w n))

-- n is 2^t times what is left
pub twos_of_whole : (w n : ℕ) → n ≡ 2 ^ twos_of w n * (n / 2 ^ twos_of w n)
twos_of_whole w n = (parts w n).whole ∙ ap (2 ^ twos_of w n *◌) (sym (rest_eq w n))

-- 2^t divides n
pub twos_of-divides : (w n : ℕ) → n % 2 ^ twos_of w n ≡ 0
twos_of-divides w n = ap (◌% 2 ^ twos_of w n) (parts w n).whole ∙ mul-mod_right (2 ^ twos_of w n) (parts w n).rest

-- what is left is odd where t is below w
pub twos_of-left-odd : (w n : ℕ) → twos_of w n < w → (n / 2 ^ twos_of w n) % 2 ≡ 1
twos_of-left-odd w n h = ap (◌% 2) (rest_eq w n) ∙ (parts w n).odd h

-- no higher power, up to 2^w, divides n
pub le-twos_of : (w n j : ℕ) → j ≤ w → n % 2 ^ j ≡ 0 → j ≤ twos_of w n
unfolding twos_of
le-twos_of zero n j h e = h
le-twos_of (suc w) n zero h e = zero-le
le-twos_of (suc w) n (suc j) h e =
    let k = n / 2 ^ suc j in
    let twice : k * 2 ^ suc j ≡ 2 * (2 ^ j * k) = ap (k *◌) (pow-succ' 2 j) ∙ omega arith in
    let whole : n ≡ 2 * (2 ^ j * k) = omega (arith, div-add-mod' n (2 ^ suc j), twice) in
    let half : n / 2 ≡ 2 ^ j * k = omega arith in
    let even : n % 2 ≡ 0 = omega arith in
    rw (twos_of_even w n even)
    (suc-le-suc (le-twos_of w (n / 2) j (le_of_suc-le-suc h) (ap (◌% 2 ^ j) half ∙ mul-mod_right (2 ^ j) k)))

-- t is w exactly where n is 0 modulo 2^w
pub twos_of_full : (w n : ℕ) → n % 2 ^ w ≡ 0 → twos_of w n ≡ w
twos_of_full w n e = le_antisymm (twos_of-le w n) (le-twos_of w n w (le_refl w) e)

pub zero_of_twos_of : (w n : ℕ) → w ≤ twos_of w n → n % 2 ^ w ≡ 0
zero_of_twos_of w n h =
    let e : twos_of w n ≡ w = le_antisymm (twos_of-le w n) h in
    ap (λ (t : ℕ). n % 2 ^ t) (sym e) ∙ twos_of-divides w n

-- fewer digits: the count is cut
pub twos_of-cut : (a b n : ℕ) → a ≤ b → twos_of a n ≡ min (twos_of b n) a
unfolding twos_of
twos_of-cut zero b n h = omega arith
twos_of-cut (suc a) zero n h = absurd (not-suc-le-zero h)
twos_of-cut (suc a) (suc b) n h =
    ⊎_elim (λ (e : n % 2 ≡ 0). rw (twos_of_even a n e, twos_of_even b n e) (omega (arith, twos_of-cut a b (n / 2) (le_of_suc-le-suc h))))
    (λ (e : n % 2 ≡ 1). rw (twos_of-odd a n e, twos_of-odd b n e) (omega arith)) (even_or_odd n)

-- the zeros at the end of a number of b digits, cut at w, are its twos cut at w
pub trailing_cut : (w b n : ℕ) → w ≤ b → min (count_trailing_zeros b n) w ≡ twos_of w n
trailing_cut w b n h = ap (λ (t : ℕ). min t w) (trailing_twos_of b n) ∙ sym (twos_of-cut w b n h)
