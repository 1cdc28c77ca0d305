-- Grids that decide: where d + 1 reaches `degree_cap_of`, a falling factorial of more than d factors is 0 modulo 2^w at every point, as it is divisible by its
-- factorial. So every power is a sum of falling factorials to at most d, and a polynomial of any exponents has at every point the value of its cut box.
use Rattle.std.specs.Prelude.{◌≡◌, ℕ, zero, suc, ◌+◌, ◌*◌, ◌-◌, ◌^◌, ◌≤◌, ◌<◌, List, [], ◌∷◌, length, drop}
use Rattle.std.proofs.Common.{sym, ap, ◌∙◌, inl, suc-le-suc, zero-lt-suc, zero-add, suc-add, zero-mul, arith, pow-add}
use Rattle.meaning.specs.Tables.{at}
use Rattle.meaning.specs.Sums.{sum}
use Rattle.meaning.specs.Factorials.{factorial, falling, twos, odd_part, degree_cap_of}
use Rattle.meaning.specs.Stirling.{stirling2}
use Rattle.theory.specs.Congruence.{Cong, cong_of_eq, cong_sym, cong_trans, cong_add-left, cong_mul-left, cong_mul_right, cong_mul-zero}
use Rattle.theory.specs.Sums.{sum_cong, sum-zero, sum_split}
use Rattle.theory.specs.Binomials.{choose, factorial_pos, falling-eq-factorial-mul-choose}
use Rattle.theory.specs.Twos.{twos-odd_part}
use Rattle.theory.specs.DegreeCap.{degree_cap_of_least}
use Rattle.theory.specs.StirlingNumbers.{power_eq-sum-falling}
use Rattle.theory.specs.Evaluation.{Each, done, more}
use Rattle.theory.specs.CutPolynomials.{Cuts}

-- a falling factorial to the cap or more is 0 modulo 2^w
pub falling_cap : (w x i : ℕ) → Cong (2 ^ w) (falling x (i + degree_cap_of w)) 0
unfolding falling
falling_cap w x zero = rw (zero-add (degree_cap_of w)) (cong_trans (cong_of_eq (2 ^ w) whole) (cong_mul-zero (2 ^ w) k))
  where
    f : ℕ
    f = factorial (degree_cap_of w)

    k : ℕ
    k = odd_part f * choose x (degree_cap_of w) * 2 ^ (twos f - w)

    t : twos f ≡ twos f - w + w
    t = omega (arith, (degree_cap_of_least w).enough)

    powers : 2 ^ twos f ≡ 2 ^ (twos f - w) * 2 ^ w
    powers = ap (2 ^◌) t ∙ pow-add 2 (twos f - w) w

    whole : falling x (degree_cap_of w) ≡ k * 2 ^ w
    whole =
        falling-eq-factorial-mul-choose x (degree_cap_of w)
        ∙ ap (◌* choose x (degree_cap_of w)) (twos-odd_part f (factorial_pos (degree_cap_of w)) ∙ ap (◌* odd_part f) powers)
        ∙ omega arith
falling_cap w x (suc i) =
    rw (suc-add i (degree_cap_of w), falling)
    (cong_trans (cong_mul_right (x - (i + degree_cap_of w)) (falling_cap w x i)) (cong_of_eq (2 ^ w) (zero-mul (x - (i + degree_cap_of w)))))

-- so every power is a sum of falling factorials to at most d
pub cuts_cap : (w d : ℕ) → degree_cap_of w ≤ suc d → (x : ℕ) → Cuts (2 ^ w) d x
cuts_cap w d h x e =
    cong_sym
    (cong_trans (cong_of_eq (2 ^ w) (power_eq-sum-falling x e (d + e) (inl l) ∙ ap (λ (k : ℕ). sum k F) (sym (suc-add d e)) ∙ sum_split (suc d) e F))
    (cong_trans (cong_add-left (sum (suc d) F) (sum_cong e (λ i q. rest i))) (cong_of_eq (2 ^ w) none_left)))
  where
    F : ℕ → ℕ
    F j = stirling2 e j * falling x j

    l : e ≤ d + e
    l = omega arith

    rest : (i : ℕ) → Cong (2 ^ w) (F (suc d + i)) (stirling2 e (suc d + i) * 0)
    rest i =
        let s : suc d + i ≡ suc d + i - degree_cap_of w + degree_cap_of w = omega arith in
        cong_mul-left (stirling2 e (suc d + i)) (rw s (falling_cap w x (suc d + i - degree_cap_of w)))

    none_left : sum (suc d) F + sum e (λ i. stirling2 e (suc d + i) * 0) ≡ sum (suc d) F
    none_left = omega (arith, sum-zero e {f = λ i. stirling2 e (suc d + i) * 0} (λ i q. omega arith))

-- for every variable
pub cuts_deciding : (w : ℕ) (ds xs : List ℕ) → ((i : ℕ) → i < length ds → degree_cap_of w ≤ suc (at ds i)) → Each (Cuts (2 ^ w)) ds xs
cuts_deciding w [] xs h = done
cuts_deciding w (d ∷ ds) xs h =
    more (cuts_cap w d (h 0 (zero-lt-suc (length ds))) (at xs 0)) (cuts_deciding w ds (drop 1 xs) (λ i q. h (suc i) (suc-le-suc q)))
