-- The conversions of one line of coefficients, sums with Stirling numbers, depend only on the coefficients up to the degree, and on these modulo m.
use Rattle.std.specs.Prelude.{◌≡◌, ℕ, suc, ◌≤◌}
use Rattle.std.proofs.Common.{le_of_suc-le-suc}
use Rattle.meaning.specs.Stirling.{stirling2, falling_line, power_line}
use Rattle.theory.specs.Congruence.{Cong, cong_of_eq, cong_mul-left}
use Rattle.theory.specs.Sums.{sum_cong}
use Rattle.lines.specs.FlatTables.{Local}
use Rattle.theory.specs.StirlingNumbers.{signed}

pub falling_line_cong : (m d : ℕ) {b c : ℕ → ℕ} → ((e : ℕ) → e ≤ d → Cong m (b e) (c e)) → (j : ℕ) → falling_line m d b j ≡ falling_line m d c j
unfolding falling_line
falling_line_cong m d h j = (sum_cong (suc d) (λ e p. cong_mul-left (stirling2 e j) (h e (le_of_suc-le-suc p)))).same

pub power_line_cong : (m d : ℕ) {b c : ℕ → ℕ} → ((e : ℕ) → e ≤ d → Cong m (b e) (c e)) → (j : ℕ) → power_line m d b j ≡ power_line m d c j
unfolding power_line
power_line_cong m d h j = (sum_cong (suc d) (λ e p. cong_mul-left (signed m e j) (h e (le_of_suc-le-suc p)))).same

-- a conversion only reads its line
pub falling_line_local : (m : ℕ) → Local (falling_line m)
falling_line_local m d v w same e h = falling_line_cong m d (λ x p. cong_of_eq m (same x p)) e

pub power_line_local : (m : ℕ) → Local (power_line m)
power_line_local m d v w same e h = power_line_cong m d (λ x p. cong_of_eq m (same x p)) e
