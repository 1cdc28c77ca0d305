-- The rules of the two constant tables, each over the whole table: the recurrence of the odd parts of factorials, and that the other table has their inverses.
-- Both follow from what the tables are: (k + 1)! is (k + 1) times k!, and the odd part of a product is the product of the odd parts.
use Rattle.std.specs.Prelude.{◌≡◌, ℕ, ◌+◌, ◌*◌, ◌%◌, ◌^◌, ◌<◌, List, refl}
use Rattle.std.proofs.Common.{sym, ap, ap₂, ◌∙◌, arith}
use Rattle.meaning.specs.Tables.{tabulate, at}
use Rattle.meaning.specs.Factorials.{factorial, twos_of, twos, odd_part}
use Rattle.meaning.specs.Inverses.{inverse}
use Rattle.theory.specs.Congruence.{cong_sym, cong_trans, cong_mul_right, mod-cong}
use Rattle.theory.specs.Tables.{at-tabulate}
use Rattle.theory.specs.Binomials.{factorial_pos}
use Rattle.theory.specs.Twos.{odd_part-odd, odd_part-factorial}
use Rattle.theory.specs.Inverses.{inverse_serves}

-- the table of odd parts: 1 first, and each entry times the odd part of the next number is the next entry, modulo 2^64
pub record OddFactorials (t : List ℕ) : Type 0 where
  pub start : at t 0 ≡ 1
  pub next : (k : ℕ) → k < 255 → at t (k + 1) ≡ (at t k * odd_part (k + 1)) % 2 ^ 64

-- the entries of u are the inverses of those of t, modulo 2^64
pub record Inverted (t u : List ℕ) : Type 0 where
  pub unit : (k : ℕ) → k < 256 → (at t k * at u k) % 2 ^ 64 ≡ 1

-- the two tables
abbrev pub odd_factorials_of : List ℕ
odd_factorials_of = tabulate 256 (λ k. odd_part (factorial k) % 2 ^ 64)

abbrev pub odd_inverses : List ℕ
odd_inverses = tabulate 256 (λ k. inverse (odd_part (factorial k)) 64)

-- ---- the recurrence

abbrev odd : ℕ → ℕ
odd k = odd_part (factorial k) % 2 ^ 64

odd-start : odd 0 ≡ 1
unfolding factorial twos_of twos odd_part
odd-start = refl

odd_next : (k : ℕ) → odd (k + 1) ≡ (odd k * odd_part (k + 1)) % 2 ^ 64
odd_next k =
    ap (◌% 2 ^ 64) (odd_part-factorial k) ∙ (cong_mul_right (odd_part (k + 1)) (cong_sym (mod-cong (2 ^ 64) (odd_part (factorial k))))).same

recurs : OddFactorials odd_factorials_of
recurs =
    record {
      start = at-tabulate 256 odd 0 (omega arith) ∙ odd-start;
      next = λ k h.
          at-tabulate 256 odd (k + 1) (omega arith)
          ∙ odd_next k
          ∙ ap (λ (x : ℕ). (x * odd_part (k + 1)) % 2 ^ 64) (sym (at-tabulate 256 odd k (omega arith)));
    }

-- a list that is the table has the recurrence
pub with_recurrence : {t : List ℕ} → t ≡ odd_factorials_of → (t ≡ odd_factorials_of) × OddFactorials t
with_recurrence e = (e, rw e recurs)

-- ---- the inverses

inverted : Inverted odd_factorials_of odd_inverses
inverted =
    record {
      unit = λ k h.
          let x = odd_part (factorial k) in
          ap₂ (λ (a b : ℕ). (a * b) % 2 ^ 64) (at-tabulate 256 odd k h) (at-tabulate 256 (λ k. inverse (odd_part (factorial k)) 64) k h)
          ∙ (cong_trans (cong_mul_right (inverse x 64) (mod-cong (2 ^ 64) x)) (inverse_serves x 64 (odd_part-odd (factorial k) (factorial_pos k))).unit
          ).same;
    }

-- a list that is the table of inverses has inverses
pub with_inverses : {t : List ℕ} → t ≡ odd_inverses → (t ≡ odd_inverses) × Inverted odd_factorials_of t
with_inverses e = (e, rw e inverted)
