-- How many falling products a point has: a box of at most 65,536 cells has few variables or low degrees.
use Rattle.std.proofs.Common.{ℕ, zero, suc, ◌+◌, ◌*◌, ◌<◌, ◌≤◌, replicate, le_trans, le_refl, lt_irrefl, mul-le-mul, lt_of_not-le, arith}
use Rattle.std.proofs.Math.Decide.{dec_le}
use Rattle.meaning.specs.Boxes.{cells}
use Rattle.theory.specs.Boxes.{cells_pos}

low_degree : (n b d : ℕ) → cells (replicate n d) ≤ 65536 → ((b ≤ d) → 65537 ≤ cells (replicate n d)) → d < b
low_degree n b d h f = go (dec_le b d)
  where
    go : Dec (b ≤ d) → d < b
    go (yes p) = absurd (lt_irrefl 65536 (le_trans (f p) h))
    go (no p) = lt_of_not-le p

-- at most 512 of k coordinates to the exponents 0 to d
pub products_few : (k d : ℕ) → k ≤ 20 → d ≤ 255 → cells (replicate k d) ≤ 65536 → k * (d + 1) ≤ 512
unfolding cells
products_few zero d few low small = omega arith
products_few (suc zero) d few low small = omega arith
products_few (suc (suc zero)) d few low small = omega arith
products_few (suc (suc (suc zero))) d few low small =
    let top : d < 40 = low_degree 3 40 d small
    (λ p. le_trans {m = 68921} (omega arith)
    (mul-le-mul {n₁ = 1681} {m₁ = 41} (mul-le-mul {n₁ = 41} {m₁ = 41} (mul-le-mul {n₁ = 1} {m₁ = 41} (le_refl 1) (omega arith)) (omega arith))
    (omega arith))) in
    omega arith
products_few (suc (suc (suc (suc k)))) d few low small =
    let one : 1 ≤ cells (replicate k d) = cells_pos (replicate k d) in
    let top : d < 16 = low_degree (suc (suc (suc (suc k)))) 16 d small
    (λ p. le_trans {m = 83521} (omega arith)
    (mul-le-mul {n₁ = 4913} {m₁ = 17} (mul-le-mul {n₁ = 289} {m₁ = 17} (mul-le-mul {n₁ = 17} {m₁ = 17} (mul-le-mul {n₁ = 1} {m₁ = 17} one (omega arith))
    (omega arith)) (omega arith)) (omega arith))) in
    let side : d + 1 ≤ 16 = omega arith in
    omega (arith, mul-le-mul few side)
