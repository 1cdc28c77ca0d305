-- The loop multiplies one row after the other.
use Rattle.std.proofs.Common.{◌≡◌, ℕ, List, ◌+◌, ◌*◌, ◌%◌, ◌^◌, ◌<◌, length, ap, ◌∙◌}
use Rattle.meaning.specs.Tables.{at, tabulate}
use Rattle.theory.specs.MatrixTables.{flat}
use Rattle.theory.specs.Parts.{part}
use Rattle.weighted_poly_fit.specs.Entries.{fallen}
use Rattle.theory.specs.FilledRows.{Rows, row_length, row_at, rows_rule, rows_done, at-flat}
use Rattle.weighted_poly_fit.proofs.MatrixRows.{rows_at, fallen-zero-on}
use Rattle.weighted_poly_fit.proofs.fit.Given.weigh_rows.Goals as goal

-- the row of a turn has falling factorials still
row_falls : {E : ℕ → ℕ → ℕ} {rows cols : ℕ} {m₀ m : List ℕ} {i : ℕ} (w : ℕ) → Rows E rows cols m₀ m (i * cols) i → i < rows
    → m₀ ≡ tabulate (length m₀) (flat cols (fallen w)) → length m₀ ≡ rows * cols
    → (e : ℕ) → e < cols → at (part (i * cols) (i * cols + cols) m) e ≡ fallen w i e
row_falls {rows = rows} {cols = cols} {i = i} w r h value long e l = row_at r h e l ∙ at-flat (fallen w) rows cols value long i e h l

pub weigh-requires : goal.weigh-requires
weigh-requires c =
    let a = c.args.self.now in
    let l = c.loop-i in
    let p = c.requires in
    let falls = λ (e : ℕ) (h : e < length _).
    row_falls a.bitwidth l.invariant c.loop-i-test.true p.matrix_value p.matrix_len e (rw (row_length l.invariant c.loop-i-test.true) at h) in
    (fallen-zero-on a.bitwidth l.i _ falls, a.shaped.high)

pub loop-i-preserved : goal.loop-i-preserved
loop-i-preserved c =
    let a = c.args.self.now in
    let l = c.loop-i in
    let p = c.requires in
    let row : List ℕ = part (l.i * a.cols) (l.i * a.cols + a.cols) l.matrix in
    rows_at (rows_rule l.invariant c.loop-i-test.true _ (λ e. (at a.weights.now l.i * at row e) % 2 ^ a.bitwidth) c.weigh.ensures
    (λ e h. ap (λ (n : ℕ). (at a.weights.now l.i * n) % 2 ^ a.bitwidth) (row_falls a.bitwidth l.invariant c.loop-i-test.true p.matrix_value p.matrix_len e h)))

pub returns : goal.returns
returns c = rows_done c.loop-i.invariant c.loop-i-test.false
