-- Of one variable the rows are falling factorials times their weights; of more the columns are filled from the table of falling factorials.
use Rattle.std.specs.Prelude.{◌≡◌, List, ℕ, ◌*◌, ◌%◌, ◌^◌, ◌<◌, length}
use Rattle.std.proofs.Common.{sym, ap, ap₂, ◌∙◌, mul-le-mul_right, le_trans, le_of_eq, lt_of_lt_of_le, arith}
use Rattle.meaning.specs.Tables.{at, tabulate}
use Rattle.meaning.specs.Elimination.{joined}
use Rattle.meaning.specs.Fit.{columns}
use Rattle.theory.specs.Tables.{length-tabulate}
use Rattle.theory.specs.MatrixTables.{flat}
use Rattle.weighted_poly_fit.specs.Entries.{weighed, fallen}
use Rattle.theory.specs.FilledRows.{flat-eq}
use Rattle.weighted_poly_fit.specs.declared.fit.Given.{Given}
use Rattle.weighted_poly_fit.proofs.Listed.{length-columns-joined}
use Rattle.weighted_poly_fit.proofs.FitMatrix.{columns_small, columns-one-at}
use Rattle.weighted_poly_fit.proofs.MatrixRows.{products_hold}
use Rattle.weighted_poly_fit.proofs.MatrixColumns.{one-weighed}
use Rattle.weighted_poly_fit.proofs.fit.Given.fill_matrix.Goals as goal

-- a filled table keeps its length
filled_long : {t : List ℕ} (m : List ℕ) (f : ℕ → ℕ) → t ≡ tabulate (length m) f → length t ≡ length m
filled_long m f e = ap length e ∙ length-tabulate _ _

-- the exponents are those of the columns
module _ (g : Given) {es : List ℕ} (listed : es ≡ joined (columns g.degrees.now g.most)) where
  low : (i : ℕ) → i < length es → at es i < g.size
  low = rw listed (columns_small g.degrees.now g.most g.size g.shaped.below)

  alone : length g.grid.now ≡ 1 → (c : ℕ) → c < length es → at es c ≡ c
  alone one = rw listed (columns-one-at g.degrees.now g.most (sym g.shaped.same ∙ one))

  long : length es ≡ g.cols * length g.grid.now
  long =
      ap length listed ∙ length-columns-joined g.degrees.now g.most ∙ ap₂ ◌*◌ (sym g.counted.column_count) (sym g.shaped.same)

pub returns-then-self-eq1 : goal.returns-then-self-eq1
returns-then-self-eq1 c =
    let a = c.args in
    let g = a.self.now in
    let p = c.requires in
    let single : length g.grid.now ≡ 1 = omega (arith, c.if-self-eq1.true) in
    let E : ℕ → ℕ → ℕ = λ i j. (at g.weights.now i * fallen g.bitwidth i j) % 2 ^ g.bitwidth in
    let columns-long : length a.exponents.now ≡ g.cols = omega (arith, long g p.listed, ap (g.cols *◌) single) in
    c.weigh_rows.ensures
    ∙ ap (λ (n : ℕ). tabulate n (flat g.cols E)) (filled_long _ _ c.fill_products.ensures)
    ∙ flat-eq E (weighed g.bitwidth g.grid.now a.exponents.now g.weights.now) (length g.weights.now) g.cols _ p.matrix_len
    (λ i j h l.
    one-weighed g.bitwidth g.grid.now a.exponents.now g.weights.now single (alone g p.listed single) i j
    (lt_of_lt_of_le h (le_of_eq p.tables.1)) (lt_of_lt_of_le l (le_of_eq (sym columns-long))))

pub fill_columns-requires : goal.fill_columns-requires
fill_columns-requires c =
    let a = c.args in
    let g = a.self.now in
    let p = c.requires in
    let filled = filled_long _ _ c.fill_products-2.ensures in
    let many : 1 < length g.grid.now = omega (arith, g.shaped.same, g.shaped.some, c.if-self-eq1.false) in
    record {
      matrix_len = (p.matrix_len, long g p.listed);
      weights_len = (
        p.tables.1,
        products_hold g.bitwidth g.size (c.fill_products-2.ensures ∙ ap (λ (n : ℕ). tabulate n (flat g.size (fallen g.bitwidth))) (sym filled)),
      );
      below = low g p.listed;
      tabled = λ j h. le_trans (mul-le-mul_right g.size (omega (arith, g.shaped.grid_below many j h))) (le_of_eq (sym (filled ∙ p.tables.0)));
    }
