-- The room of a fit: how much is enough, and what its parts hold.
use Rattle.std.specs.Prelude.{◌≡◌, Bool, cond, ℕ, zero, suc, ◌+◌, ◌*◌, ◌≤◌, ◌<◌, eqb, length, replicate}
use Rattle.std.proofs.Common.{ap, ap₂, ◌∙◌, le_trans, le_of_eq, lt_irrefl, not-suc-le-zero, add-one, arith}
use borrow.Author.Tests.{ne_eqb}
use Rattle.meaning.specs.Boxes.{cells}
use Rattle.meaning.specs.Fit.{columns}
use Rattle.weighted_poly_fit.proofs.FewColumns.{products_few}

-- with two variables or more the coordinates of the grid are tabled, and with one none
pub tabled_side : (n g : ℕ) {side : ℕ} → 1 < n → side ≡ cond (eqb n 1) 0 (g + 1) → side ≡ g + 1
tabled_side n g h e = e ∙ ap (λ (b : Bool). cond b 0 (g + 1)) (ne_eqb n 1 (λ q. lt_irrefl 1 (rw q at h)))

-- so that there are few falling factorials of them, where the matrix is small enough
pub tabled_few : (n g d most : ℕ) {side : ℕ} → d ≤ most → cells (replicate n g) * length (columns (replicate n d) most) ≤ 65536 → 0 < n
    → side ≡ cond (eqb n 1) 0 (g + 1) → side * (d + 1) ≤ 362
tabled_few zero g d most h small some e = absurd (not-suc-le-zero some)
tabled_few (suc zero) g d most h small some e = rw e (omega arith)
tabled_few (suc (suc k)) g d most {side} h small some e =
    le_trans (le_of_eq (ap₂ ◌*◌ (tabled_side (suc (suc k)) g (omega arith) e ∙ add-one g) (add-one d))) (products_few k g d most h small)
