-- The library's words for the bytes of a number, and the chunks of a table, as entries.
use Rattle.std.proofs.Common.{◌≡◌, Bool, ◌||◌, refl, sym, ap, ◌∙◌, ℕ, zero, suc, ◌+◌, ◌*◌, ◌/◌, ◌%◌, ◌^◌, ◌<◌, List, [], ◌∷◌, map, length, get_or, take, drop}
use Rattle.std.proofs.Common.{arith, le_of_suc-le-suc, not-suc-le-zero, mul_comm, one-mul, suc-mul, add-zero, div-one, get_or-take, get_or-drop}
use Rattle.std.specs.Int.{w64, byte_at, byte_worth, bytes_low_first, sum_through, to_le_bytes, from_le_bytes}
use Rattle.std.specs.Simd.{first_chunks}
use Rattle.std.specs.List.{list_any}
use Rattle.std.proofs.lemmas.List.{drop-drop, length-map, get_or-map}
use Rattle.meaning.specs.Sums.{sum}
use Rattle.meaning.specs.Tables.{at}
use Rattle.meaning.specs.Settings.{some}
use Rattle.theory.specs.Tables.{eq-tabulate}
use Rattle.theory.specs.Sums.{sum_eq, sum_last}
use Rattle.byte_calls.specs.Bytes.{number_at, byte_of, decoded}

-- ---- a number from its bytes

through : (f : ℕ → ℕ) (k : ℕ) → sum_through f k ≡ sum (suc k) f
unfolding sum
through f zero = sym (add-zero (f 0))
through f (suc k) = ap (◌+ f (suc k)) (through f k) ∙ sym (sum_last (suc k) f)

worth : (i b : ℕ) → byte_worth i b ≡ 256 ^ i * b
worth zero b = sym (one-mul b)
worth (suc i) b = mul_comm b (256 ^ suc i)

-- the number of the eight bytes from a place on
pub number-le_bytes : (bytes : List ℕ) (from : ℕ) → from_le_bytes w64 (take 8 (drop from bytes)) ≡ number_at bytes from 8
unfolding number_at
number-le_bytes bytes from =
    through (λ i. byte_worth i (get_or (take 8 (drop from bytes)) i 0)) 7
    ∙ sum_eq 8 (λ i h. worth i _ ∙ ap (256 ^ i *◌) (get_or-take 8 (drop from bytes) i 0 h ∙ get_or-drop from bytes i 0))

-- ---- the bytes of a number

byte_is : (i n : ℕ) → byte_at i n ≡ byte_of n i
byte_is zero n = ap (◌% 256) (sym (div-one n))
byte_is (suc i) n = refl

low-length : (i k n : ℕ) → length (bytes_low_first i k n) ≡ k
low-length i zero n = refl
low-length i (suc k) n = ap suc (low-length (suc i) k n)

low_byte : (i k n j : ℕ) → j < k → at (bytes_low_first i k n) j ≡ byte_of n (i + j)
low_byte i zero n j h = absurd (not-suc-le-zero h)
low_byte i (suc k) n zero h = byte_is i n ∙ ap (byte_of n) (sym (add-zero i))
low_byte i (suc k) n (suc j) h = low_byte (suc i) k n j (le_of_suc-le-suc h) ∙ ap (byte_of n) next
  where
    next : suc i + j ≡ i + suc j
    next = omega arith

pub length-le_bytes : (n : ℕ) → length (to_le_bytes w64 n) ≡ 8
length-le_bytes n = low-length 0 8 n

pub byte-le_bytes : (n j : ℕ) → j < 8 → at (to_le_bytes w64 n) j ≡ byte_of n j
byte-le_bytes n j h = low_byte 0 8 n j h ∙ ap (byte_of n) (omega arith)

-- ---- the chunks of a table of bytes

pub at-chunks : (n k : ℕ) (xs : List ℕ) (i : ℕ) → i < k → get_or (first_chunks n k xs) i [] ≡ take n (drop (i * n) xs)
at-chunks n zero xs i h = absurd (not-suc-le-zero h)
at-chunks n (suc k) xs zero h = ap (λ (j : ℕ). take n (drop j xs)) start
  where
    start : 0 ≡ 0 * n
    start = omega arith
at-chunks n (suc k) xs (suc i) h =
    at-chunks n k (drop n xs) i (le_of_suc-le-suc h) ∙ ap (take n) (drop-drop (i * n) n xs ∙ ap (λ (j : ℕ). drop j xs) next)
  where
    next : n + i * n ≡ suc i * n
    next = omega (arith, suc-mul i n)

-- the entry that a chunk holds
pub chunk_entry : (bytes : List ℕ) (i : ℕ) → i < length bytes / 8
    → from_le_bytes w64 (get_or (first_chunks 8 (length bytes / 8) bytes) i []) ≡ number_at bytes (i * 8) 8
chunk_entry bytes i h = ap (from_le_bytes w64) (at-chunks 8 (length bytes / 8) bytes i h) ∙ number-le_bytes bytes (i * 8)

length-chunks : {X : Type 0} (n k : ℕ) (xs : List X) → length (first_chunks n k xs) ≡ k
length-chunks n zero xs = refl
length-chunks n (suc k) xs = ap suc (length-chunks n k (drop n xs))

decoded-chunks : (bytes : List ℕ) → map (from_le_bytes w64) (first_chunks 8 (length bytes / 8) bytes) ≡ decoded bytes
unfolding decoded
decoded-chunks bytes =
    let k = length bytes / 8 in
    let chunks = first_chunks 8 k bytes in
    eq-tabulate (map (from_le_bytes w64) chunks) k _ (length-map chunks (from_le_bytes w64) ∙ length-chunks 8 k bytes)
    (λ i h. get_or-map (from_le_bytes w64) chunks i [] 0 (rw (length-chunks 8 k bytes) h) ∙ chunk_entry bytes i h)

-- a test of the entries, by the chunks
pub some-chunks : (p : ℕ → Bool) (bytes : List ℕ)
    → list_any (λ b. p (from_le_bytes w64 b)) (first_chunks 8 (length bytes / 8) bytes) ≡ some p (decoded bytes)
unfolding some
some-chunks p bytes = go (first_chunks 8 (length bytes / 8) bytes) ∙ ap (some p) (decoded-chunks bytes)
  where
    go : (xs : List (List ℕ)) → list_any (λ b. p (from_le_bytes w64 b)) xs ≡ some p (map (from_le_bytes w64) xs)
    go [] = refl
    go (x ∷ xs) = ap (p (from_le_bytes w64 x) ||◌) (go xs)
