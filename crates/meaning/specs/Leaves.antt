-- What the calls of arith, math_utils and mono answer.
use Rattle.std.specs.Prelude.{ℕ, zero, suc, ◌*◌, ◌-◌, ◌/◌, ◌%◌, ◌^◌, max, ◌&&◌, cond, List, leb, ltb, eqb, length, set}
use Rattle.meaning.specs.Tables.{tabulate, at}
use Rattle.meaning.specs.Sums.{sum}
use Rattle.meaning.specs.Factorials.{factorial, falling, taken, twos, odd_part, degree_cap_of}
use Rattle.meaning.specs.Inverses.{inverse}
use Rattle.meaning.specs.Integers.{residue}
use Rattle.meaning.specs.Stirling.{stirling1, stirling2}
use Rattle.meaning.specs.Replies.{Reply, accepted, refused, between}
use Rattle.meaning.specs.Settings.{fits_width}

-- the least degree whose factorial has w twos, for widths 2 to 64
abbrev pub cap_reply : ℕ → Reply
cap_reply w = cond (fits_width w) (accepted (degree_cap_of w)) (refused 11)

-- the odd part of k! modulo 2^w, for k to 255 and widths 1 to 64
abbrev pub odd_part_reply : ℕ → ℕ → Reply
odd_part_reply k w = cond (leb k 255 && between 1 64 w) (accepted (odd_part (factorial k) % 2 ^ w)) (refused 11)

-- the inverse of x modulo 2^bits, for odd x and 1 to 64 bits
abbrev pub inverse_reply : ℕ → ℕ → Reply
inverse_reply x bits = cond (eqb (x % 2) 1 && between 1 64 bits) (accepted (inverse x bits)) (refused 11)

-- Falling products modulo 2^w, for widths 2 to 64. They stop as soon as they are zero.

-- what the product of n factors says: the number of its refusal, or 0, the product, and how many factors were taken
pub record FallingReply : Type 0 where
  pub number : ℕ
  pub product : ℕ
  pub factors : ℕ

abbrev pub falling_told : ℕ → ℕ → ℕ → FallingReply
falling_told n p t = record { number = n; product = p; factors = t }

-- x (x - 1) .. (x - n + 1) modulo 2^w
abbrev pub falling_reply : ℕ → ℕ → ℕ → FallingReply
falling_reply w x n = cond (fits_width w) (falling_told 0 (falling x n % 2 ^ w) (taken w x n)) (falling_told 11 0 0)

-- how many factors a table of the products of 0, 1, .. factors takes, where it has `size` entries
abbrev pub products_reply : ℕ → ℕ → ℕ → Reply
products_reply w x size = cond (fits_width w) (accepted (taken w x (size - 1))) (refused 11)

-- what it leaves in the lent table: the products, or what was there
abbrev pub products_left : ℕ → ℕ → List ℕ → List ℕ
products_left w x lent = cond (fits_width w) (tabulate (length lent) (λ n. falling x n % 2 ^ w)) lent

-- a Stirling table has (n + 1)^2 cells; the entry of i and j is at cell i (n + 1) + j
abbrev pub stirling2_table : ℕ → ℕ → List ℕ
stirling2_table n w = tabulate (suc n * suc n) (λ c. stirling2 (c / suc n) (c % suc n) % 2 ^ w)

abbrev pub stirling1_table : ℕ → ℕ → List ℕ
stirling1_table n w = tabulate (suc n * suc n) (λ c. residue (2 ^ w) (stirling1 (c / suc n) (c % suc n)))

-- the number that a Stirling table's filling answers, for a lent table of the given length
abbrev pub stirling_number : ℕ → ℕ → ℕ → ℕ
stirling_number n w size = cond (fits_width w) (cond (eqb size (suc n * suc n)) 0 9) 11

-- what it leaves in the lent table: the Stirling table where it is accepted, else what was there
abbrev pub stirling_left : ℕ → ℕ → List ℕ → List ℕ → List ℕ
stirling_left n w filled lent = cond (fits_width w && eqb (length lent) (suc n * suc n)) filled lent

-- the largest of the first n entries, 0 if there is none
unfoldable pub largest : ℕ → (ℕ → ℕ) → ℕ
largest zero f = 0
largest (suc n) f = max (f 0) (largest n (λ i. f (suc i)))

-- answers over the first n exponents of a key
abbrev pub degree_reply : ℕ → List ℕ → Reply
degree_reply n key = cond (leb n 20) (accepted (sum n (at key))) (refused 11)

abbrev pub largest_reply : ℕ → List ℕ → Reply
largest_reply n key = cond (leb n 20) (accepted (largest n (at key))) (refused 11)

abbrev pub weight_reply : ℕ → List ℕ → Reply
weight_reply n key = cond (leb n 20) (accepted (sum n (λ i. twos (factorial (at key i))))) (refused 11)

-- Keys of twenty exponents. n counts the variables that are read or written.

-- 11 where n is above 20 or above the length of the lent list
abbrev pub key_number : ℕ → ℕ → ℕ
key_number n size = cond (leb n 20 && leb n size) 0 11

-- the key of the first n entries of a list, the rest zero
abbrev pub key_of : ℕ → List ℕ → List ℕ
key_of n exps = tabulate 20 (λ i. cond (ltb i n) (at exps i) 0)

-- the key of a list, all zero where it is turned down
abbrev pub key_reply : ℕ → List ℕ → List ℕ
key_reply n exps = cond (leb n 20 && leb n (length exps)) (key_of n exps) (tabulate 20 (λ i. 0))

-- a lent list with its first n entries replaced by the key's, as it was where it is turned down
abbrev pub exponents_left : ℕ → List ℕ → List ℕ → List ℕ
exponents_left n key out =
    cond (leb n 20 && leb n (length out)) (tabulate (length out) (λ i. cond (ltb i n) (at key i) (at out i))) out

-- the exponent of a variable below 20
abbrev pub exponent_reply : ℕ → List ℕ → Reply
exponent_reply i key = cond (ltb i 20) (accepted (at key i)) (refused 11)

-- the key with one exponent replaced, as it was where the variable is not below 20
abbrev pub exponent_set : ℕ → ℕ → List ℕ → List ℕ
exponent_set i e key = cond (ltb i 20) (set key i e) key
