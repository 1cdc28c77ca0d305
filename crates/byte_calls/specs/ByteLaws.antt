-- Bytes and tables: decoding what was encoded gives the table back, and encoding what was decoded gives the bytes back.
use Rattle.std.specs.Prelude.{◌≡◌, List, length, ℕ, zero, suc, ◌+◌, ◌*◌, ◌-◌, ◌/◌, ◌%◌, ◌^◌, ◌≤◌, ◌<◌, refl}
use Rattle.std.proofs.Common.{◌∙◌, not-suc-le-zero, le_of_suc-le-suc, mul_assoc, mul_comm, pow-suc, mod-lt, mod-eq_of_lt, div-one, div-add-mod', mul-div_cancel, add-one, arith, sym, ap, ap₂}
use Rattle.std.proofs.Math.Nat.{one-le-pow, pow-le-pow_right, mod-one, div-div-eq-div-mul}
use Rattle.std.proofs.Math.Arith.{digits_lt, digits_div, digits_mod, mod-mul}
use Rattle.meaning.specs.Sums.{sum}
use Rattle.meaning.specs.Tables.{tabulate, at}
use Rattle.theory.specs.Sums.{sum_eq, sum-mul_right}
use Rattle.theory.specs.Tables.{length-tabulate, at-tabulate, eq-tabulate}
use Rattle.byte_calls.specs.Bytes.{number_at, byte_of, decoded, encoded}

-- ---- numbers by their bytes

-- the number of n bytes
abbrev number : ℕ → (ℕ → ℕ) → ℕ
number n d = sum n (λ j. 256 ^ j * d j)

pub pow_pos : (n : ℕ) → 0 < 256 ^ n
pow_pos n = one-le-pow n 256 (omega arith)

-- the least byte, and the number of the others
number_step : (n : ℕ) (d : ℕ → ℕ) → number (suc n) d ≡ number n (λ j. d (suc j)) * 256 + d 0
unfolding sum
number_step n d =
    let rest : sum n (λ j. 256 ^ suc j * d (suc j)) ≡ number n (λ j. d (suc j)) * 256 = sum_eq n (λ i h. one i) ∙ sum-mul_right n 256 _ in
    omega (arith, rest)
  where
    one : (i : ℕ) → 256 ^ suc i * d (suc i) ≡ 256 ^ i * d (suc i) * 256
    one i = simp (pow-suc, mul_assoc, mul_comm 256)

number_lt : (n : ℕ) (d : ℕ → ℕ) → ((i : ℕ) → d i < 256) → number n d < 256 ^ n
unfolding sum
number_lt zero d h = omega arith
number_lt (suc n) d h =
    rw (number_step n d, pow-suc 256 n) (digits_lt (number_lt n (λ j. d (suc j)) (λ i. h (suc i))) (h 0))

-- the byte after: that of the number without its least byte
byte_suc : (x k : ℕ) → byte_of x (suc k) ≡ byte_of (x / 256) k
byte_suc x k = ap (◌% 256) (ap (x /◌) (pow-suc 256 k ∙ mul_comm (256 ^ k) 256) ∙ sym (div-div-eq-div-mul x 256 (256 ^ k)))

-- a byte of a number made of bytes
byte_of_number : (n : ℕ) (d : ℕ → ℕ) → ((i : ℕ) → d i < 256) → (k : ℕ) → k < n → byte_of (number n d) k ≡ d k
byte_of_number zero d h k p = absurd (not-suc-le-zero p)
byte_of_number (suc n) d h zero p =
    ap (λ (x : ℕ). x / 1 % 256) (number_step n d) ∙ ap (◌% 256) (div-one _) ∙ digits_mod (number n (λ j. d (suc j))) (h 0)
byte_of_number (suc n) d h (suc k) p =
    byte_suc (number (suc n) d) k
    ∙ ap (λ (x : ℕ). byte_of x k) (ap (◌/ 256) (number_step n d) ∙ digits_div (number n (λ j. d (suc j))) (h 0))
    ∙ byte_of_number n (λ j. d (suc j)) (λ i. h (suc i)) k (le_of_suc-le-suc p)

-- the number of its bytes
number_of_bytes : (n x : ℕ) → number n (byte_of x) ≡ x % 256 ^ n
unfolding sum
number_of_bytes zero x = sym (mod-one x)
number_of_bytes (suc n) x =
    number_step n (byte_of x)
    ∙ ap₂ (λ (a b : ℕ). a * 256 + b) (sum_eq n (λ i h. ap (256 ^ i *◌) (byte_suc x i)) ∙ number_of_bytes n (x / 256)) (ap (◌% 256) (div-one x))
    ∙ sym (ap (x %◌) (pow-suc 256 n) ∙ mod-mul x (pow_pos n) (omega arith))

-- what is left of a number after one byte more
pub rest_next : (x j : ℕ) → x / 256 ^ j / 256 ≡ x / 256 ^ (j + 1)
rest_next x j = div-div-eq-div-mul x (256 ^ j) 256 ∙ ap (x /◌) (sym (pow-suc 256 j) ∙ ap (256 ^◌) (sym (add-one j)))

-- ---- the loop over the bytes of one entry, from the last one down

module _ (bytes : List ℕ) (from : ℕ) where
  -- no byte yet
  pub entry-start : number_at bytes (from + (8 - 0)) 0 ≡ 0
  unfolding number_at sum
  entry-start = refl

  -- the byte before the ones that are done
  pub entry-step : (j : ℕ) → j < 8
      → number_at bytes (from + (8 - j)) j * 256 + at bytes (from + 7 - j) ≡ number_at bytes (from + (8 - (j + 1))) (j + 1)
  unfolding number_at
  entry-step j p =
      sym
      (ap (λ (n : ℕ). number n (λ i. at bytes (from + (8 - (j + 1)) + i))) (add-one j)
      ∙ number_step j (λ i. at bytes (from + (8 - (j + 1)) + i))
      ∙ ap₂ (λ (a b : ℕ). a * 256 + b) (sum_eq j (λ i h. ap (λ (n : ℕ). 256 ^ i * at bytes n) (place j i p))) (ap (at bytes) (there j p)))
    where
      place : (j i : ℕ) → j < 8 → from + (8 - (j + 1)) + suc i ≡ from + (8 - j) + i
      place j i p = omega arith

      there : (j : ℕ) → j < 8 → from + (8 - (j + 1)) + 0 ≡ from + 7 - j
      there j p = omega arith

  -- all eight of them
  pub entry_done : (j : ℕ) → 8 ≤ j → j ≤ 8 → number_at bytes (from + (8 - j)) j ≡ number_at bytes from 8
  entry_done j h k = ap₂ (number_at bytes) (omega arith) (omega arith)

  -- a number that leaves room for one byte more
  pub entry_room : ((i : ℕ) → at bytes i < 256) → (j : ℕ) → j < 8 → number_at bytes (from + (8 - j)) j < 2 ^ 56
  unfolding number_at
  entry_room h j p =
      let most : 256 ^ j ≤ 256 ^ 7 = pow-le-pow_right (omega arith) {i = j} {j = 7} (omega arith) in
      let low = number_lt j (λ i. at bytes (from + (8 - j) + i)) (λ i. h (from + (8 - j) + i)) in
      omega (arith, most, low)

-- ---- whole tables

-- the table of 8 n bytes has n entries
pub length-decoded : (bytes : List ℕ) (n : ℕ) → length bytes ≡ n * 8 → length (decoded bytes) ≡ n
unfolding decoded
length-decoded bytes n e = length-tabulate _ _ ∙ ap (◌/ 8) e ∙ mul-div_cancel n (omega arith)

pub length-encoded : (words : List ℕ) → length (encoded words) ≡ length words * 8
unfolding encoded
length-encoded words = length-tabulate _ _

-- the table of the entries that bytes hold, counted by the entries
pub tabulate-decoded : (bytes : List ℕ) (n : ℕ) → length bytes ≡ n * 8 → tabulate n (λ i. number_at bytes (i * 8) 8) ≡ decoded bytes
unfolding decoded
tabulate-decoded bytes n e = ap (λ (n : ℕ). tabulate n (λ i. number_at bytes (i * 8) 8)) (sym (ap (◌/ 8) e ∙ mul-div_cancel n (omega arith)))

pub tabulate-encoded : (words : List ℕ) (n : ℕ) → n ≡ length words * 8 → tabulate n (λ i. byte_of (at words (i / 8)) (i % 8)) ≡ encoded words
unfolding encoded
tabulate-encoded words n e = ap (λ (n : ℕ). tabulate n (λ i. byte_of (at words (i / 8)) (i % 8))) e

-- the bytes of one entry stand together
pub byte_place : (words : List ℕ) (i k : ℕ) → k < 8 → byte_of (at words i) k ≡ byte_of (at words ((i * 8 + k) / 8)) ((i * 8 + k) % 8)
byte_place words i k h = sym (ap₂ (λ (a b : ℕ). byte_of (at words a) b) (digits_div i h) (digits_mod i h))

-- ---- the round trips

-- entries of 64 bits come back
pub decode_encode : (words : List ℕ) → ((i : ℕ) → at words i < 2 ^ 64) → decoded (encoded words) ≡ words
unfolding decoded encoded number_at
decode_encode words h =
    sym
    (eq-tabulate words _ _ (sym (ap (◌/ 8) (length-encoded words) ∙ mul-div_cancel (length words) (omega arith)))
    (λ i p. sym (entry i (rw (ap (◌/ 8) (length-encoded words) ∙ mul-div_cancel (length words) (omega arith)) at p))))
  where
    entry : (i : ℕ) → i < length words → number 8 (λ j. at (encoded words) (i * 8 + j)) ≡ at words i
    entry i p =
        sum_eq 8 {f = λ j. 256 ^ j * at (encoded words) (i * 8 + j)} {g = λ j. 256 ^ j * byte_of (at words i) j}
        (λ j q. ap (256 ^ j *◌) (at-tabulate (length words * 8) _ (i * 8 + j) (within i j p q) ∙ sym (byte_place words i j q)))
        ∙ number_of_bytes 8 (at words i)
        ∙ mod-eq_of_lt (h i)
      where
        within : (i j : ℕ) → i < length words → j < 8 → i * 8 + j < length words * 8
        within i j p q = omega arith

-- whole entries of bytes come back
pub encode_decode : (bytes : List ℕ) (n : ℕ) → length bytes ≡ n * 8 → ((i : ℕ) → at bytes i < 256) → encoded (decoded bytes) ≡ bytes
unfolding decoded encoded number_at
encode_decode bytes n e h =
    sym
    (eq-tabulate bytes _ _ (e ∙ ap (◌* 8) (sym (length-decoded bytes n e)))
    (λ i p. sym (byte i (rw (length-decoded bytes n e) at p))))
  where
    byte : (i : ℕ) → i < n * 8 → byte_of (at (decoded bytes) (i / 8)) (i % 8) ≡ at bytes i
    byte i p =
        ap (λ (x : ℕ). byte_of x (i % 8)) (at-tabulate (length bytes / 8) _ (i / 8) (within i p))
        ∙ byte_of_number 8 (λ j. at bytes (i / 8 * 8 + j)) (λ j. h (i / 8 * 8 + j)) (i % 8) (mod-lt i (omega arith))
        ∙ ap (at bytes) (div-add-mod' i 8)
      where
        within : (i : ℕ) → i < n * 8 → i / 8 < length bytes / 8
        within i p = rw (ap (◌/ 8) e ∙ mul-div_cancel n (omega arith)) (omega arith)
