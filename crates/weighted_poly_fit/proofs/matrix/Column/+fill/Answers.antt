-- One variable is a line; else the loop walks over the sub-boxes of the last variable, and a sub-box whose product is zero is zero as it was.
use Rattle.std.proofs.Common.{◌≡◌, ℕ, List, length, ◌+◌, ◌*◌, ◌-◌, ◌/◌, ◌^◌, ◌<◌, ◌≤◌, refl, sym, ap, subst, ◌∙◌, arith, zero-mul, lt_of_lt_of_le, mul-le-mul_right, le_trans, le_of_eq}
use Rattle.std.specs.Prelude.{bit_and}
use Rattle.std.proofs.Math.Arith.{digits_lt}
use Rattle.meaning.specs.Tables.{at}
use Rattle.meaning.specs.Factorials.{falling}
use Rattle.theory.specs.Congruence.{Cong}
use Rattle.theory.specs.LastVariable.{length-others}
use Rattle.theory.specs.Parts.{part, length_part}
use Rattle.box_rows.specs.Walks.{Walk, walk_start, walk_exponent, walk_fits, walk_part, walk_next}
use Rattle.weighted_poly_fit.specs.Entries.{Tabled, Columned, column_entry}
use Rattle.weighted_poly_fit.proofs.MatrixColumns.{walk_at, walk_inside, walk_whole, column_none, column_eq, column_skip, column_part, column_zero, product_more, entry-part, entry_none, entry-line, cells-one, tabled_others}
use Rattle.weighted_poly_fit.proofs.matrix.Column.+fill.Goals as goal
use Rattle.weighted_poly_fit.proofs.matrix.Column.+fill.Goals.{then-product-ne0, else-product-ne0}

-- the place of the falling factorial of a turn
factor_place : {gs : List ℕ} (es ps : List ℕ) {size n rows x from : ℕ} → Tabled gs es size ps → Walk gs n rows x from → from < n
    → x * size + at es (length gs - 1) < length ps
factor_place {gs} es ps t w h =
    let d = t (length gs - 1) (omega (arith, w.filled)) in
    lt_of_lt_of_le (digits_lt (omega (arith, walk_exponent w h)) d.0) d.1

-- the rows of a turn lie in the matrix
part_fits : {gs m₀ m : List ℕ} {f : ℕ → ℕ} {n rows x from r cols c : ℕ} → Walk gs n rows x from → from < n → Columned cols c f m₀ m r → length m₀ ≡ n * cols
    → (from + rows) * cols ≤ length m
part_fits {cols = cols} w h k e = le_trans (mul-le-mul_right cols (walk_fits w h)) (le_of_eq (sym (k.same ∙ e)))

pub fill_line-requires-clause-e_lt_size : goal.fill_line-requires-clause-e_lt_size
fill_line-requires-clause-e_lt_size t c =
    let a = c.args in
    let k = a.self.now in
    let p = c.requires in
    let d = p.tabled.0 (length a.grid.now - 1) (omega (arith, p.weights_len.1)) in
    let one : length a.grid.now ≡ 1 = omega (arith, p.weights_len.1, c.if-last-eq0.true) in
    (d.0, le_trans (le_of_eq (ap (◌* k.size) (p.weights_len.0 ∙ cells-one a.grid.now one))) d.1)

pub returns-then-last-eq0 : goal.returns-then-last-eq0
returns-then-last-eq0 t c =
    let a = c.args in
    let k = a.self.now in
    let p = c.requires in
    let one : length a.grid.now ≡ 1 = omega (arith, p.weights_len.1, c.if-last-eq0.true) in
    column_eq c.fill_line.ensures (λ i h. entry-line k.bitwidth a.value a.grid.now k.exps.now a.weights.now one i (rw p.weights_len.0 at h))

pub loop-x-init : goal.loop-x-init
loop-x-init t c =
    let p = c.requires in
    (walk_at (walk_start c.args.grid.now _ p.weights_len.1 p.weights_len.0), column_none (zero-mul _), c.bitmask-mask.ensures)

pub overflow_mul-from-then-product-ne0 : goal.overflow_mul-from-then-product-ne0
overflow_mul-from-then-product-ne0 t c =
    let i = c.loop-x.invariant in
    omega (arith, part_fits i.0 (walk_inside i.0 c.loop-x-test.true) i.1 c.requires.matrix_len)

pub overflow_mul-end : goal.overflow_mul-end
overflow_mul-end t c =
    let i = c.loop-x.invariant in
    omega (arith, part_fits i.0 (walk_inside i.0 c.loop-x-test.true) i.1 c.requires.matrix_len)

pub offset_bounds-matrix-from : goal.offset_bounds-matrix-from
offset_bounds-matrix-from t c =
    let i = c.loop-x.invariant in
    omega (arith, part_fits i.0 (walk_inside i.0 c.loop-x-test.true) i.1 c.requires.matrix_len)

pub fill-requires : goal.fill-requires
fill-requires t c =
    let l = c.loop-x in
    let a = c.args in
    let k = a.self.now in
    let p = c.requires in
    let i = l.invariant in
    let h = walk_inside i.0 c.loop-x-test.true in
    let rows : ℕ = length a.weights.now / (at a.grid.now (length a.grid.now - 1) + 1) in
    let from = l.x * rows in
    let fits = walk_fits i.0 h in
    let n = length-others a.grid.now i.0.filled in
    let long : length (part from (from + rows) a.weights.now) ≡ rows = length_part _ _ a.weights.now fits ∙ omega arith in
    let part-long : length (part (from * k.cols) ((from + rows) * k.cols) l.matrix) ≡ length (part from (from + rows) a.weights.now) * k.cols =
    length_part _ _ l.matrix (part_fits i.0 h i.1 p.matrix_len) ∙ omega arith ∙ ap (◌* k.cols) (sym long) in (
      omega (arith, n, c.decreases, i.0.filled),
      (
        part-long,
        (
          (walk_part i.0 h a.weights.now refl, omega (arith, n, c.if-last-eq0.false), omega (arith, n, p.weights_len.2)),
          (
            tabled_others a.grid.now k.exps.now k.size k.products.now i.0.filled p.tabled.0,
            λ j q. column_zero i.1 k.inside p.tabled.1 rows fits j (rw long at q),
          ),
        ),
      ),
    )

pub loop-x-preserved : goal.loop-x-preserved
loop-x-preserved t c =
    let l = c.loop-x in
    let a = c.args in
    let k = a.self.now in
    let p = c.requires in
    let i = l.invariant in
    let h = walk_inside i.0 c.loop-x-test.true in
    let rows : ℕ = length a.weights.now / (at a.grid.now (length a.grid.now - 1) + 1) in
    let from = l.x * rows in
    let fits = walk_fits i.0 h in
    let f : ℕ → ℕ = column_entry k.bitwidth a.value a.grid.now k.exps.now a.weights.now in
    let long : length (part from (from + rows) a.weights.now) ≡ rows = length_part _ _ a.weights.now fits ∙ omega arith in
    let d = p.tabled.0 (length a.grid.now - 1) (omega (arith, p.weights_len.1)) in
    let product : ℕ = bit_and c.wrapping_mul.result c.bitmask-mask.result in
    let multiplied : Cong (2 ^ k.bitwidth) product (a.value * falling l.x (at k.exps.now (length a.grid.now - 1))) =
    product_more k.bitwidth k.narrow i.2 a.value l.x _ c.wrapping_mul.ensures (k.holds l.x _ d.0 (factor_place _ _ p.tabled.0 i.0 h)) in
    let next : from + rows ≡ (l.x + 1) * rows = omega arith in
    let filled : Columned k.cols k.c f a.matrix.now c.if-product-ne0.matrix (from + rows) =
    elim c.if-product-ne0.branch [
      | then-product-ne0 o ↦
          subst (λ (m : List ℕ). Columned k.cols k.c f a.matrix.now m (from + rows)) (sym o.matrix-is)
          (column_part i.1 k.inside rows (part_fits i.0 h i.1 p.matrix_len) _ long o.fill.ensures
          (entry-part k.bitwidth a.value k.exps.now a.weights.now i.0 h multiplied))
      | else-product-ne0 o ↦
          subst (λ (m : List ℕ). Columned k.cols k.c f a.matrix.now m (from + rows)) (sym o.matrix-is)
          (column_skip i.1 k.inside rows (λ j k. p.tabled.1 j (lt_of_lt_of_le k fits))
          (entry_none k.bitwidth a.value k.exps.now a.weights.now i.0 h multiplied o.if-product-ne0.false))
    ] in
    (walk_at (walk_next i.0 h), rw (← next) filled, i.2)

pub returns : goal.returns
returns t c = rw (← walk_whole c.loop-x.invariant.0 c.loop-x-test.false) c.loop-x.invariant.1
