-- The loop fills the entry of one coordinate after the other; where the product is zero the entry is zero as it was.
use Rattle.std.proofs.Common.{◌≡◌, ℕ, List, ◌+◌, ◌*◌, ◌%◌, ◌^◌, ◌<◌, length, sym, ap, subst, ◌∙◌, arith, lt_of_lt_of_le}
use Rattle.std.proofs.Math.Arith.{digits_lt}
use Rattle.meaning.specs.Tables.{at}
use Rattle.weighted_poly_fit.specs.Entries.{fallen, Columned}
use Rattle.weighted_poly_fit.proofs.MatrixColumns.{column_skip, column_set, line-entry, line-zero}
use Rattle.weighted_poly_fit.proofs.matrix.Column.fill_line.Goals as goal
use Rattle.weighted_poly_fit.proofs.matrix.Column.fill_line.Goals.{then-product-ne0, else-product-ne0}

pub loop-x-preserved : goal.loop-x-preserved
loop-x-preserved c =
    let a = c.args in
    let col = a.self.now in
    let p = c.requires in
    let l = c.loop-x in
    let k = l.invariant.0 in
    let W = at a.weights.now l.x in
    let E : ℕ → ℕ = λ i. (at a.weights.now i * (a.value * fallen col.bitwidth i a.e)) % 2 ^ col.bitwidth in
    let place : l.x * col.size + a.e < length col.products.now = lt_of_lt_of_le (digits_lt c.loop-x-test.true p.e_lt_size.0) p.e_lt_size.1 in
    let entry : l.x * col.cols + col.c < length l.matrix = rw (k.same ∙ p.matrix_len) (digits_lt c.loop-x-test.true col.inside) in
    let h = col.holds l.x a.e p.e_lt_size.0 place in
    let filled : Columned col.cols col.c E a.matrix.now c.if-product-ne0.matrix (l.x + 1) =
    elim c.if-product-ne0.branch [
      | then-product-ne0 o ↦
          subst (λ (m : List ℕ). Columned col.cols col.c E a.matrix.now m (l.x + 1)) (sym o.matrix-is)
          (column_set k col.inside entry _
          (line-entry col.bitwidth col.narrow l.invariant.1 a.value l.x a.e W c.wrapping_mul.ensures h o.wrapping_mul-then-product-ne0.ensures))
      | else-product-ne0 o ↦
          subst (λ (m : List ℕ). Columned col.cols col.c E a.matrix.now m (l.x + 1)) (sym o.matrix-is)
          (column_skip k col.inside 1 (λ i l. p.zero i (omega (arith, c.loop-x-test.true)))
          (λ i q.
          let e : l.x + i ≡ l.x = omega arith in
          ap E e ∙ line-zero col.bitwidth col.narrow l.invariant.1 a.value l.x a.e W c.wrapping_mul.ensures h o.if-product-ne0.false))
    ] in
    (filled, l.invariant.1)
