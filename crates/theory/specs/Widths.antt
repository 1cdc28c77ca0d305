-- The widths: for m = 2^w and the factorials of an exponent list, the common part, what is left of each, and the inverse.
-- With q twos in the factorials the common part is 2^(least of q and w), what is left of the modulus is the bound 2^(w - q), and what is left of
-- the factorials is 2^(q - w) times their odd part, each difference cut at 0. Where q is w or more the bound is 1, and every number serves as an
-- inverse: that is the only case split, and no statement has it.
use Rattle.std.specs.Prelude.{◌≡◌, refl, ◌↔◌, ◌⊎◌, ℕ, ◌+◌, ◌*◌, ◌-◌, ◌/◌, ◌%◌, ◌^◌, ◌≤◌, ◌<◌, min, List, [], ◌∷◌, T}
use Rattle.std.proofs.Common.{sym, ap, ap₂, ◌∙◌, inl, inr, mul_assoc, one-mul, mod-eq_of_lt, lt_of_not-le, arith, eqb→eq, pow_pos, pow-add}
use Rattle.std.proofs.Math.Nat.{mul-mul-mul_comm, mod-one, zero-mod}
use Rattle.std.proofs.Math.Decide.{dec_le}
use Rattle.meaning.specs.Factorials.{factorial, twos, odd_part}
use Rattle.meaning.specs.Inverses.{inverse}
use Rattle.meaning.specs.Values.{weight, odd_factor, bound}
use Rattle.meaning.specs.Recovery.{divides, coefficient}
use Rattle.theory.specs.Binomials.{factorial_pos}
use Rattle.theory.specs.Twos.{twos-odd_part, odd_part-odd, odd-mul}
use Rattle.theory.specs.Inverses.{inverse_serves}
use Rattle.theory.specs.OneCell.{OneCell}

-- the product of the factorials of the exponents
unfoldable pub factorials : List ℕ → ℕ
factorials [] = 1
factorials (e ∷ es) = factorial e * factorials es

-- it is 2^weight times its odd part
pub factorials-eq : (es : List ℕ) → factorials es ≡ 2 ^ weight es * odd_factor es
unfolding factorials weight odd_factor
factorials-eq [] = refl
factorials-eq (e ∷ es) =
    ap₂ ◌*◌ (twos-odd_part (factorial e) (factorial_pos e)) (factorials-eq es)
    ∙ mul-mul-mul_comm (2 ^ twos (factorial e)) (odd_part (factorial e)) (2 ^ weight es) (odd_factor es)
    ∙ ap (◌* (odd_part (factorial e) * odd_factor es)) (sym (pow-add 2 (twos (factorial e)) (weight es)))

-- which is odd
pub odd_factor-odd : (es : List ℕ) → odd_factor es % 2 ≡ 1
unfolding odd_factor
odd_factor-odd [] = refl
odd_factor-odd (e ∷ es) = odd-mul (odd_part (factorial e)) (odd_factor es) (odd_part-odd (factorial e) (factorial_pos e)) (odd_factor-odd es)

-- a bound is above 0
pub bound_pos : (w : ℕ) (es : List ℕ) → 0 < bound w es
unfolding bound
bound_pos w es = pow_pos (w - weight es)

-- the common part and the bound make the modulus
pub modulus-parts : (w : ℕ) (es : List ℕ) → 2 ^ w ≡ 2 ^ min (weight es) w * bound w es
unfolding bound
modulus-parts w es =
    let e : w ≡ min (weight es) w + (w - weight es) = omega arith in
    ap (2 ^◌) e ∙ pow-add 2 (min (weight es) w) (w - weight es)

-- the common part and the rest make the factorials
pub factorials_parts : (w : ℕ) (es : List ℕ) → factorials es ≡ 2 ^ min (weight es) w * (2 ^ (weight es - w) * odd_factor es)
factorials_parts w es =
    let e : weight es ≡ min (weight es) w + (weight es - w) = omega arith in
    factorials-eq es
    ∙ ap (◌* odd_factor es) (ap (2 ^◌) e ∙ pow-add 2 (min (weight es) w) (weight es - w))
    ∙ mul_assoc (2 ^ min (weight es) w) (2 ^ (weight es - w)) (odd_factor es)

-- the inverse serves for the rest modulo the bound
pub inverse_parts : (w : ℕ) (es : List ℕ)
    → (2 ^ (weight es - w) * odd_factor es * inverse (odd_factor es) (w - weight es)) % bound w es ≡ 1 % bound w es
unfolding bound
inverse_parts w es = go (dec_le (weight es) w)
  where
    x : ℕ
    x = odd_factor es

    go : Dec (weight es ≤ w) → (2 ^ (weight es - w) * x * inverse x (w - weight es)) % 2 ^ (w - weight es) ≡ 1 % 2 ^ (w - weight es)
    go (yes h) =
        let z : weight es - w ≡ 0 = omega arith in
        ap (λ (k : ℕ). (2 ^ k * x * inverse x (w - weight es)) % 2 ^ (w - weight es)) z
        ∙ ap (λ (k : ℕ). (k * inverse x (w - weight es)) % 2 ^ (w - weight es)) (one-mul x)
        ∙ (inverse_serves x (w - weight es) (odd_factor-odd es)).unit.same
    go (no h) =
        let l : w < weight es = lt_of_not-le h in
        let z : w - weight es ≡ 0 = omega arith in
        let a : ℕ = 2 ^ (weight es - w) * x * inverse x (w - weight es) in
        ap (λ (k : ℕ). a % 2 ^ k) z ∙ mod-one a ∙ sym (ap (λ (k : ℕ). 1 % 2 ^ k) z)

-- the cell of an exponent list at width w
abbrev pub width_cell : (w : ℕ) (es : List ℕ) → OneCell (2 ^ w) (factorials es)
width_cell w es =
    record {
      g = 2 ^ min (weight es) w;
      h = bound w es;
      k = 2 ^ (weight es - w) * odd_factor es;
      u = inverse (odd_factor es) (w - weight es);
      modulus = modulus-parts w es;
      factor = factorials_parts w es;
      inverse = inverse_parts w es;
      g_pos = pow_pos (min (weight es) w);
      h_pos = bound_pos w es;
    }

-- the test of a difference is that of the cell
pub divides-iff : (w : ℕ) (es : List ℕ) (D : ℕ) → T (divides w es D) ↔ (D % (width_cell w es).g ≡ 0)
unfolding divides
divides-iff w es D = (eqb→eq (D % 2 ^ min (weight es) w) 0, λ e. rw e tt)

-- the two cases of a difference D that passes: fewer twos in the factorials than the width, and 2^twos divides D; or as many as the width or more, and D is 0
abbrev pub Divided : ℕ → List ℕ → ℕ → Type 0
Divided w es D = ((weight es < w) × (D % 2 ^ weight es ≡ 0)) ⊎ ((w ≤ weight es) × (D ≡ 0))

-- the test passes just so
pub divides_cases : (w : ℕ) (es : List ℕ) (D : ℕ) → D < 2 ^ w → T (divides w es D) ↔ Divided w es D
divides_cases w es D small = (λ t. there (dec_le w (weight es)) ((divides-iff w es D).0 t), λ d. (divides-iff w es D).1 (back d))
  where
    there : Dec (w ≤ weight es) → D % 2 ^ min (weight es) w ≡ 0 → Divided w es D
    there (yes h) e =
        let least : min (weight es) w ≡ w = omega arith in
        inr (h, sym (mod-eq_of_lt small) ∙ ap (λ (k : ℕ). D % 2 ^ k) (sym least) ∙ e)
    there (no h) e =
        let l : weight es < w = lt_of_not-le h in
        let least : min (weight es) w ≡ weight es = omega arith in
        inl (l, ap (λ (k : ℕ). D % 2 ^ k) (sym least) ∙ e)

    back : Divided w es D → D % 2 ^ min (weight es) w ≡ 0
    back (inl d) =
        let least : min (weight es) w ≡ weight es = omega arith in
        ap (λ (k : ℕ). D % 2 ^ k) least ∙ d.1
    back (inr d) = ap (◌% 2 ^ min (weight es) w) d.1 ∙ zero-mod (2 ^ min (weight es) w)

-- the coefficient of a difference is the solution of the cell
pub coefficient-eq : (w : ℕ) (es : List ℕ) (D : ℕ) → coefficient w es D ≡ (D / (width_cell w es).g * (width_cell w es).u) % (width_cell w es).h
unfolding coefficient bound
coefficient-eq w es D = go (dec_le (weight es) w)
  where
    u : ℕ
    u = inverse (odd_factor es) (w - weight es)

    go : Dec (weight es ≤ w) → (D / 2 ^ weight es * u) % 2 ^ (w - weight es) ≡ (D / 2 ^ min (weight es) w * u) % 2 ^ (w - weight es)
    go (yes h) =
        let e : weight es ≡ min (weight es) w = omega arith in
        ap (λ (q : ℕ). (D / 2 ^ q * u) % 2 ^ (w - weight es)) e
    go (no h) =
        let l : w < weight es = lt_of_not-le h in
        let z : w - weight es ≡ 0 = omega arith in
        let a : ℕ = D / 2 ^ weight es * u in
        let b : ℕ = D / 2 ^ min (weight es) w * u in
        ap (λ (k : ℕ). a % 2 ^ k) z ∙ mod-one a ∙ sym (ap (λ (k : ℕ). b % 2 ^ k) z ∙ mod-one b)
