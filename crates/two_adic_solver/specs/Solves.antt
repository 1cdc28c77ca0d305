-- What it is to solve a system, in the words of its tables.
use Rattle.std.specs.Prelude.{◌≡◌, ℕ, ◌+◌, ◌*◌, ◌%◌, ◌^◌, ◌<◌, List, length}
use Rattle.meaning.specs.Tables.{at}
use Rattle.meaning.specs.Sums.{sum}

-- in every row the sum over the columns of entry times value is the right side, modulo 2^w
pub record Solves (w cols : ℕ) (mat rhs x : List ℕ) : Type 0 where
  pub row : (i : ℕ) → i < length rhs → sum cols (λ c. at mat (i * cols + c) * at x c) % 2 ^ w ≡ at rhs i % 2 ^ w
