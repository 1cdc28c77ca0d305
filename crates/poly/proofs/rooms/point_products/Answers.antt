-- The loop fills the places of one coordinate after the other.
use Rattle.std.proofs.Common.{ℕ, ◌+◌, ◌%◌, ◌^◌, length, sym, refl, ap, ◌∙◌}
use Rattle.meaning.specs.Tables.{at, tabulate}
use Rattle.meaning.specs.Factorials.{falling}
use Rattle.theory.specs.Parts.{part}
use Rattle.theory.specs.MatrixTables.{flat}
use Rattle.theory.specs.FilledRows.{rows_rule, rows_done, at-flat}
use Rattle.theory.specs.FallingProducts.{products-left}
use Rattle.poly.proofs.rooms.point_products.Goals as goal

pub loop-coordinate-preserved : goal.loop-coordinate-preserved
loop-coordinate-preserved c =
    let x = at c.args.point.now c.loop-coordinate.coordinate-index in
    rows_rule c.loop-coordinate.invariant c.loop-coordinate-test.true _ (λ e. falling x e % 2 ^ c.args.bitwidth)
    (products-left c.args.bitwidth x (part c.loop-coordinate.from (c.loop-coordinate.from + c.args.size) c.loop-coordinate.table) c.requires.0
    c.falling_products.ensures.leaves) (λ e h. refl)

pub returns : goal.returns
returns c =
    let a = c.args in
    let E : ℕ → ℕ → ℕ = λ i e. falling (at a.point.now i) e % 2 ^ a.bitwidth in
    let long = c.loop-coordinate.invariant.filled.same in
    λ j e h p.
    at-flat E (length a.point.now) a.size
    (rows_done c.loop-coordinate.invariant c.loop-coordinate-test.false ∙ ap (λ (n : ℕ). tabulate n (flat a.size E)) (sym long))
    (long ∙ c.requires.1) j e h p
