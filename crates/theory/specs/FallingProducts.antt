-- Falling products modulo m, taken factor by factor until they are zero: one step, when to stop, and how many factors there are at most.
use Rattle.std.specs.Prelude.{◌≡◌, ◌⊎◌, true, List, length, refl, ℕ, zero, suc, ◌+◌, ◌-◌, ◌*◌, ◌%◌, ◌^◌, ◌≤◌, ◌<◌}
use Rattle.std.proofs.Common.{sym, ap, subst, ◌∙◌, inr, not-suc-le-zero, eq-or-lt_of_le, le_of_suc-le-suc, le_of_lt, lt_of_not-le, lt_irrefl, lt_of_lt_of_le, zero-lt-suc, mod-eq_of_lt, mul_assoc, add-zero, add-one, pow-add, inl, zero-le, arith}
use Rattle.std.proofs.Math.Nat.{zero-mod, mul-mod_right}
use Rattle.std.proofs.Math.Decide.{dec_le}
use Rattle.meaning.specs.Tables.{tabulate}
use Rattle.meaning.specs.Settings.{fits_width}
use Rattle.meaning.specs.Leaves.{falling_told, falling_reply, products_left}
use Rattle.meaning.specs.Factorials.{factorial, falling, taken_from, taken, twos, odd_part, degree_cap_of}
use Rattle.theory.specs.Congruence.{cong_mul_right, mod-cong}
use Rattle.theory.specs.Twos.{twos-odd_part}
use Rattle.theory.specs.DegreeCap.{degree_cap_of_least}
use Rattle.theory.specs.Binomials.{choose, factorial_pos, falling-zero, falling-eq-factorial-mul-choose}

-- ---- one step

-- one factor more
pub falling_next : (m x n p : ℕ) → p ≡ falling x n % m → (p * (x - n)) % m ≡ falling x (n + 1) % m
unfolding falling
falling_next m x n p h =
    ap (λ (k : ℕ). (k * (x - n)) % m) h
    ∙ (cong_mul_right (x - n) (mod-cong m (falling x n))).same
    ∙ ap (λ (k : ℕ). falling x k % m) (sym (add-one n))

module _ (m x : ℕ) where
  zero_next : (n : ℕ) → falling x n % m ≡ 0 → falling x (n + 1) % m ≡ 0
  zero_next n e = sym (falling_next m x n 0 (sym e)) ∙ ap (◌% m) (omega arith) ∙ zero-mod m

  -- a product that is zero stays so
  pub zero_stays : {k : ℕ} (n : ℕ) → k ≤ n → falling x k % m ≡ 0 → falling x n % m ≡ 0
  zero_stays {k} zero h e = subst (λ (i : ℕ). falling x i % m ≡ 0) (omega arith) e
  zero_stays {k} (suc n) h e = go (eq-or-lt_of_le h) (λ l. zero_stays n l e)
    where
      go : (k ≡ suc n) ⊎ (k < suc n) → (k ≤ n → falling x n % m ≡ 0) → falling x (suc n) % m ≡ 0
      go (inl q) rest = subst (λ (i : ℕ). falling x i % m ≡ 0) q e
      go (inr l) rest = subst (λ (i : ℕ). falling x i % m ≡ 0) (add-one n) (zero_next n (rest (le_of_suc-le-suc l)))

-- what the leaf leaves in a table, at a width that fits
pub products-left : (w x : ℕ) (t : List ℕ) {ys : List ℕ} → fits_width w ≡ true → ys ≡ products_left w x t → ys ≡ tabulate (length t) (λ n. falling x n % 2 ^ w)
products-left w x t f e = e ∙ simp f

-- ---- how many factors are taken

-- t of n factors: their product is zero or there is no other, and no fewer have a product that is zero
pub record Taken (m x n t : ℕ) : Type 0 where
  pub few : t ≤ n
  pub least : (k : ℕ) → k < t → 0 < falling x k % m
  pub stops : (t ≡ n) ⊎ (falling x t % m ≡ 0)

module _ {m x : ℕ} where
  from_is : (n i j : ℕ) → n + i ≡ j → ((k : ℕ) → k < i → 0 < falling x k % m) → Taken m x j (taken_from m x n i)
  unfolding taken_from
  from_is zero i j s below = record { few = omega arith; least = below; stops = inl (omega arith) }
  from_is (suc n) i j s below = go (falling x i % m) refl (from_is n (suc i) j (omega arith))
    where
      more : 0 < falling x i % m → (k : ℕ) → (k ≡ i) ⊎ (k < i) → 0 < falling x k % m
      more h k (inl q) = rw q h
      more h k (inr l) = below k l

      go : (r : ℕ) → falling x i % m ≡ r
          → (((k : ℕ) → k < suc i → 0 < falling x k % m) → Taken m x j (taken_from m x n (suc i)))
          → Taken m x j (elim r [ zero ↦ i | suc q ↦ taken_from m x n (suc i) ])
      go zero e rest = record { few = omega arith; least = below; stops = inr e }
      go (suc r) e rest = rest (λ k p. more (rw e (zero-lt-suc r)) k (eq-or-lt_of_le (le_of_suc-le-suc p)))

  not_less : {n s t : ℕ} → Taken m x n s → Taken m x n t → s < t → ⊥
  not_less {n} {s} {t} a b h = go a.stops
    where
      go : (s ≡ n) ⊎ (falling x s % m ≡ 0) → ⊥
      go (inl e) = lt_irrefl n (lt_of_lt_of_le (rw e at h) b.few)
      go (inr e) = lt_irrefl 0 (rw e at (b.least s h))

  -- there is one such number only
  taken_unique : {n s t : ℕ} → Taken m x n s → Taken m x n t → s ≡ t
  taken_unique {n} {s} {t} a b = go (dec_le s t) (dec_le t s)
    where
      go : Dec (s ≤ t) → Dec (t ≤ s) → s ≡ t
      go (yes p) (yes q) = omega arith
      go (no p) q = absurd (not_less b a (lt_of_not-le p))
      go (yes p) (no q) = absurd (not_less a b (lt_of_not-le q))

  -- at most x + 1, since the factor 0 is then among them
  pub taken-low : {n t : ℕ} → Taken m x n t → t ≤ x + 1
  taken-low {n} {t} a = go (dec_le t (x + 1))
    where
      go : Dec (t ≤ x + 1) → t ≤ x + 1
      go (yes p) = p
      go (no p) =
          let z : falling x (x + 1) % m ≡ 0 = ap (◌% m) (falling-zero x (x + 1) (omega arith)) ∙ zero-mod m in
          absurd (lt_irrefl 0 (rw z at (a.least (x + 1) (lt_of_not-le p))))

module _ (w x n : ℕ) where
  pub taken_is : Taken (2 ^ w) x n (taken w x n)
  unfolding taken
  taken_is = from_is n 0 n (add-zero n) (λ k h. absurd (not-suc-le-zero h))

  pub taken-eq : {t : ℕ} → Taken (2 ^ w) x n t → t ≡ taken w x n
  taken-eq a = taken_unique a taken_is

-- w twos are in the factorial, and the factorial divides
pub cap_zero : (w x : ℕ) → falling x (degree_cap_of w) % 2 ^ w ≡ 0
cap_zero w x =
    let d = degree_cap_of w in
    let t = twos (factorial d) in
    let e : w + (t - w) ≡ t = omega (arith, (degree_cap_of_least w).enough) in
    let whole : falling x d ≡ 2 ^ w * (2 ^ (t - w) * odd_part (factorial d) * choose x d) =
    falling-eq-factorial-mul-choose x d
    ∙ ap (◌* choose x d) (twos-odd_part (factorial d) (factorial_pos d) ∙ ap (λ (k : ℕ). 2 ^ k * odd_part (factorial d)) (sym e) ∙ ap (◌* odd_part (factorial d)) (pow-add 2 w (t - w)) ∙ mul_assoc (2 ^ w) (2 ^ (t - w)) (odd_part (factorial d)))
    ∙ mul_assoc (2 ^ w) (2 ^ (t - w) * odd_part (factorial d)) (choose x d)
    in
    ap (◌% 2 ^ w) whole ∙ mul-mod_right (2 ^ w) (2 ^ (t - w) * odd_part (factorial d) * choose x d)

-- so that no more are ever taken
pub taken_cap : (w x : ℕ) {n t : ℕ} → Taken (2 ^ w) x n t → t ≤ degree_cap_of w
taken_cap w x {n} {t} a = go (dec_le t (degree_cap_of w))
  where
    go : Dec (t ≤ degree_cap_of w) → t ≤ degree_cap_of w
    go (yes p) = p
    go (no p) = absurd (lt_irrefl 0 (rw (cap_zero w x) at (a.least (degree_cap_of w) (lt_of_not-le p))))

-- ---- the loop

-- c of n factors are taken, and no product so far is zero
pub record Taking (m x n c : ℕ) : Type 0 where
  pub few : c ≤ n
  pub so_far : (k : ℕ) → k ≤ c → 0 < falling x k % m

module _ {m x n : ℕ} where
  pub taking_start : 1 < m → Taking m x n 0
  unfolding falling
  taking_start h =
      record {
        few = zero-le;
        so_far = λ k p. let z : k ≡ 0 = omega arith in rw z (rw (mod-eq_of_lt h) (zero-lt-suc 0));
      }

  module _ {c : ℕ} (r : Taking m x n c) where
    -- the next factor is not cut at 0
    pub taking_low : c ≤ x
    taking_low = go (dec_le c x)
      where
        go : Dec (c ≤ x) → c ≤ x
        go (yes p) = p
        go (no p) =
            let z : falling x c % m ≡ 0 = ap (◌% m) (falling-zero x c (lt_of_not-le p)) ∙ zero-mod m in
            absurd (lt_irrefl 0 (rw z at (r.so_far c (omega arith))))

    pub taking_next : c < n → 0 < falling x (c + 1) % m → Taking m x n (c + 1)
    taking_next h p =
        record {
          few = omega arith;
          so_far = λ k l. go k (eq-or-lt_of_le l);
        }
      where
        go : (k : ℕ) → (k ≡ c + 1) ⊎ (k < c + 1) → 0 < falling x k % m
        go k (inl q) = rw q p
        go k (inr l) = r.so_far k (omega arith)

    -- it stops at a product that is zero, or where all are taken
    pub taking_zero : c < n → falling x (c + 1) % m ≡ 0 → Taken m x n (c + 1)
    taking_zero h z = record { few = omega arith; least = λ k l. r.so_far k (omega arith); stops = inr z }

    pub taking_all : n ≤ c → Taken m x n c
    taking_all h = record { few = r.few; least = λ k l. r.so_far k (le_of_lt l); stops = inl (omega (arith, r.few)) }

-- ---- computed cases

-- 5 x 4 x 3 is 60; 3 x 2 x 1 x 0 is zero after four factors; 16 x 15 x .. x 10 is the first product of 16 that 256 divides, 6 x 5 x 4 the first of 6 that 4
-- divides; no factor leaves 1; a width of 65 is refused
pub falling_cases : (falling_reply 8 5 3 ≡ falling_told 0 60 3) × (falling_reply 8 3 7 ≡ falling_told 0 0 4) × (falling_reply 8 16 300 ≡ falling_told 0 0 7)
    × (falling_reply 2 6 9 ≡ falling_told 0 0 3) × (falling_reply 8 0 0 ≡ falling_told 0 1 0) × (falling_reply 65 5 3 ≡ falling_told 11 0 0)
unfolding fits_width taken taken_from falling
falling_cases = (refl, refl, refl, refl, refl, refl)
