-- Laws of a move of lines, as a transform: it only reads its line, and a narrower modulus is read off the result.
use Rattle.std.specs.Prelude.{ℕ, ◌-◌, ◌*◌}
use Rattle.meaning.specs.Factorials.{falling}
use Rattle.theory.specs.Binomials.{choose}
use Rattle.theory.specs.Congruence.{cong_of_eq, cong_refl}
use Rattle.theory.specs.MovedLines.{moved_line, moved_line_cong}
use Rattle.theory.specs.MatrixLines.{matrix_box_of_mul}
use Rattle.lines.specs.FlatTables.{Local}
use Rattle.lines.specs.Transforms.{OfMul}

pub moved_line_local : (m a : ℕ) → Local (moved_line m a)
moved_line_local m a d v w same e h = moved_line_cong m a d (λ x p. cong_of_eq m (same x p)) e

-- how often the falling factorial of x + a to e has that of x to j
abbrev share : ℕ → ℕ → ℕ → ℕ
share a j e = choose e j * falling a (e - j)

pub moved_of_mul : (a : ℕ) → OfMul (λ m. moved_line m a)
unfolding moved_line
moved_of_mul a n k p q ds t = matrix_box_of_mul n k (share a) (share a) (λ j e. cong_refl (share a j e)) ds t p
