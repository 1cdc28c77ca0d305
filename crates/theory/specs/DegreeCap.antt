-- The least degree whose factorial has w twos: the search finds it, since 2 w tries are enough.
use Rattle.std.specs.Prelude.{◌≡◌, refl, Bool, true, false, ℕ, zero, suc, ◌+◌, ◌*◌, ◌-◌, ◌/◌, ◌≤◌, ◌<◌, ◌⊎◌, leb}
use Rattle.std.proofs.Common.{sym, ◌∙◌, ap, zero-le, ⊎_elim, le_of_suc-le-suc, not-suc-le-zero, eq-or-lt_of_le, add-one, arith, le-leb, leb-true, leb-false}
use Rattle.std.proofs.Math.Nat.{sub-zero}
use Rattle.std.proofs.Math.Decide.{dec_le}
use Rattle.std.proofs.lemmas.Bool.{lt-leb}
use Rattle.std.specs.Int.Count.{ones, ones_step}
use Rattle.meaning.specs.Factorials.{factorial, twos, cap_from, degree_cap_of}
use Rattle.theory.specs.Twos.{legendre}

-- the search stops where there are twos enough, and else goes on
pub cap_from_here : (w n i : ℕ) → w ≤ twos (factorial i) → cap_from w n i ≡ i
unfolding cap_from
cap_from_here w zero i h = refl
cap_from_here w (suc n) i h = rw (le-leb w (twos (factorial i)) h, cap_from)

pub cap_from_next : (w n i : ℕ) → twos (factorial i) < w → cap_from w (suc n) i ≡ cap_from w n (suc i)
unfolding cap_from
cap_from_next w n i h = rw (lt-leb w (twos (factorial i)) h, cap_from)

-- every second factor is even
pub half_le-twos : (k : ℕ) → k / 2 ≤ twos (factorial k)
half_le-twos k = omega (arith, legendre k, legendre (k / 2), ones_step k)

-- d has twos enough, and no lower number has
pub record Least (w d : ℕ) : Type 0 where
  pub enough : w ≤ twos (factorial d)
  pub first : (e : ℕ) → e < d → twos (factorial e) < w

cap_from_least : (w n i j : ℕ) → n + i ≡ j → w ≤ twos (factorial j) → ((e : ℕ) → e < i → twos (factorial e) < w) → Least w (cap_from w n i)
unfolding cap_from
cap_from_least w zero i j s h below =
    let e : i ≡ j = omega arith in
    record { enough = rw e h; first = below }
cap_from_least w (suc n) i j s h below = go (leb w (twos (factorial i))) refl (cap_from_least w n (suc i) j (omega arith) h)
  where
    more : twos (factorial i) < w → (e : ℕ) → (e ≡ i) ⊎ (e < i) → twos (factorial e) < w
    more k e c = ⊎_elim (λ (q : e ≡ i). rw q k) (λ (q : e < i). below e q) c

    go : (b : Bool) → leb w (twos (factorial i)) ≡ b
        → (((e : ℕ) → e < suc i → twos (factorial e) < w) → Least w (cap_from w n (suc i)))
        → Least w (elim b [ true ↦ i | false ↦ cap_from w n (suc i) ])
    go true e rest = record { enough = leb-true _ _ e; first = below }
    go false e rest = rest (λ d p. more (leb-false _ _ e) d (eq-or-lt_of_le (le_of_suc-le-suc p)))

-- the cap is the least degree whose factorial has w twos
pub degree_cap_of_least : (w : ℕ) → Least w (degree_cap_of w)
unfolding degree_cap_of
degree_cap_of_least w =
    cap_from_least w (2 * w) 0 (2 * w) (omega arith) (omega (arith, half_le-twos (2 * w))) (λ e h. absurd (not-suc-le-zero h))

-- the cap is 2 at least, since 0! and 1! have no twos, and at widths to 64 no higher than 66, since 66! has 64
few_twos : (twos (factorial 0) ≡ 0) × (twos (factorial 1) ≡ 0)
unfolding ones
few_twos = (omega (arith, legendre 0), omega (arith, legendre 1))

pub two_le-degree_cap_of : (w : ℕ) → 1 ≤ w → 2 ≤ degree_cap_of w
two_le-degree_cap_of w h = go (degree_cap_of w) (degree_cap_of_least w).enough
  where
    go : (d : ℕ) → w ≤ twos (factorial d) → 2 ≤ d
    go zero k = absurd (omega (arith, h, k, few_twos.0))
    go (suc zero) k = absurd (omega (arith, h, k, few_twos.1))
    go (suc (suc d)) k = omega arith

twos_66 : twos (factorial 66) ≡ 64
unfolding ones
twos_66 = omega (arith, legendre 66)

pub degree_cap_of-le : (w : ℕ) → w ≤ 64 → degree_cap_of w ≤ 66
degree_cap_of-le w h = go (dec_le (degree_cap_of w) 66)
  where
    go : Dec (degree_cap_of w ≤ 66) → degree_cap_of w ≤ 66
    go (yes p) = p
    go (no p) = absurd (omega (arith, (degree_cap_of_least w).first 66 (omega arith), twos_66))

-- the search as a loop: d has been reached, and what is left to search gives the cap
pub record Search (w d : ℕ) : Type 0 where
  pub low : d ≤ 2 * w
  pub rest : cap_from w (2 * w - d) d ≡ degree_cap_of w

pub search_start : (w : ℕ) → Search w 0
unfolding degree_cap_of
search_start w = record { low = zero-le; rest = ap (λ (n : ℕ). cap_from w n 0) (sub-zero (2 * w)) }

pub search_below : (w d : ℕ) → Search w d → twos (factorial d) < w → d < 2 * w
search_below w d s h = omega (arith, half_le-twos d)

pub search_step : (w d : ℕ) → Search w d → twos (factorial d) < w → Search w (d + 1)
search_step w d s h =
    let below = search_below w d s h in
    let e : 2 * w - d ≡ suc (2 * w - (d + 1)) = omega arith in
    record {
      low = omega arith;
      rest =
          ap (cap_from w (2 * w - (d + 1))) (add-one d)
          ∙ sym (cap_from_next w (2 * w - (d + 1)) d h)
          ∙ ap (λ (n : ℕ). cap_from w n d) (sym e)
          ∙ s.rest;
    }

pub search_done : (w d : ℕ) → Search w d → w ≤ twos (factorial d) → d ≡ degree_cap_of w
search_done w d s h = sym (cap_from_here w (2 * w - d) d h) ∙ s.rest
