-- The matrix is cleared; the loop fills one column after the other.
use Rattle.std.specs.Prelude.{◌≡◌, List, ℕ, suc, ◌+◌, ◌*◌, ◌-◌, ◌≤◌, ◌<◌, length, take, drop}
use Rattle.std.proofs.Common.{sym, ap, ◌∙◌, mul-le-mul_right, le_of_eq, arith}
use Rattle.meaning.specs.Tables.{at, tabulate}
use Rattle.theory.specs.Tables.{length-tabulate}
use Rattle.theory.specs.Parts.{part, length_part, at_part}
use Rattle.theory.specs.MatrixTables.{flat}
use Rattle.weighted_poly_fit.specs.Entries.{weighed, column_entry}
use Rattle.weighted_poly_fit.proofs.MatrixColumns.{columns-start, columns-zero, columns_next, columns_done, entry-weighed}
use Rattle.weighted_poly_fit.proofs.fit.Given.fill_columns.Goals as goal

-- the exponents of a turn's column
module _ (columns : List ℕ) (k : ℕ) {cols c : ℕ} (long : length columns ≡ cols * k) (h : c < cols) where
  inside : c * k + k ≤ length columns
  inside =
      let l : suc c * k ≤ cols * k = mul-le-mul_right k h in
      omega (arith, l, long)

  exps-long : length (part (c * k) (c * k + k) columns) ≡ k
  exps-long = length_part _ _ columns inside ∙ omega arith

  exps-are : part (c * k) (c * k + k) columns ≡ take k (drop (c * k) columns)
  exps-are =
      let e : c * k + k - c * k ≡ k = omega arith in
      ap (λ (n : ℕ). take n (drop (c * k) columns)) e

  exps-small : {size : ℕ} → ((i : ℕ) → i < length columns → at columns i < size) → (j : ℕ) → j < k
      → at (part (c * k) (c * k + k) columns) j < size
  exps-small {size} f j q =
      let l : j < c * k + k - c * k = omega arith in
      rw (at_part (c * k) (c * k + k) columns inside j l) (f (c * k + j) (omega (arith, inside)))

cleared_long : {t : List ℕ} (m : List ℕ) → t ≡ tabulate (length m) (λ n. 0) → length t ≡ length m
cleared_long m e = ap length e ∙ length-tabulate _ _

pub loop-c-init : goal.loop-c-init
loop-c-init c =
    let long = cleared_long _ c.clear.ensures in
    columns-start (long ∙ c.requires.matrix_len.0) (c.clear.ensures ∙ ap (λ (n : ℕ). tabulate n (λ i. 0)) (sym long))

pub fill-requires : goal.fill-requires
fill-requires c =
    let p = c.requires in
    let g = c.args.self.now in
    let i = c.loop-c.invariant in
    let h = c.loop-c-test.true in
    record {
      matrix_len = i.same ∙ i.whole;
      weights_len = (p.weights_len.0, omega (arith, g.shaped.same, g.shaped.some), le_of_eq (sym (exps-long _ _ p.matrix_len.1 h)));
      tabled = (λ j q. (exps-small _ _ p.matrix_len.1 h p.below j q, p.tabled j q), columns-zero i h);
    }

pub loop-c-preserved : goal.loop-c-preserved
loop-c-preserved c =
    let a = c.args in
    let g = a.self.now in
    let h = c.loop-c-test.true in
    let are = exps-are _ _ c.requires.matrix_len.1 h in
    columns_next c.loop-c.invariant h _ c.fill.ensures
    (λ j q. ap (λ (es : List ℕ). column_entry g.bitwidth 1 g.grid.now es g.weights.now j) are
    ∙ entry-weighed g.bitwidth g.grid.now a.columns.now g.weights.now c.loop-c.c j)

pub returns : goal.returns
returns c =
    let g = c.args.self.now in
    columns_done c.loop-c.invariant c.loop-c-test.false
    ∙ ap (λ (n : ℕ). tabulate n (flat g.cols (weighed g.bitwidth g.grid.now c.args.columns.now g.weights.now))) (cleared_long _ c.clear.ensures)
