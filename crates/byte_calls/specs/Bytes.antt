-- Tables as bytes: eight to an entry, least first.
use Rattle.std.specs.Prelude.{ℕ, ◌+◌, ◌*◌, ◌/◌, ◌%◌, ◌^◌, List, length}
use Rattle.meaning.specs.Sums.{sum}
use Rattle.meaning.specs.Tables.{tabulate, at}

-- the number that n bytes from a place on make, least first
unfoldable pub number_at : List ℕ → ℕ → ℕ → ℕ
unfolding sum
number_at bytes from n = sum n (λ j. 256 ^ j * at bytes (from + j))

-- the byte of a number at a place, the least at place 0
abbrev pub byte_of : ℕ → ℕ → ℕ
byte_of word j = word / 256 ^ j % 256

-- the table that bytes hold; bytes at the end that make no whole entry are left out
unfoldable pub decoded : List ℕ → List ℕ
unfolding number_at
decoded bytes = tabulate (length bytes / 8) (λ i. number_at bytes (i * 8) 8)

-- the bytes of a table
unfoldable pub encoded : List ℕ → List ℕ
encoded words = tabulate (length words * 8) (λ n. byte_of (at words (n / 8)) (n % 8))
