-- No variable has one list; else by the largest sum.
use Rattle.std.proofs.Common.{◌≡◌, sym, List, [], ◌∷◌, ℕ, suc-ne-zero, length}
use Rattle.meaning.specs.Fit.{columns}
use Rattle.theory.specs.ColumnCount.{count_none}
use Rattle.room.proofs.counts.count_columns.Goals as goal

empty-list : (ds : List ℕ) (most : ℕ) → length ds ≡ 0 → 1 ≡ length (columns ds most)
empty-list [] most h = sym (count_none most)
empty-list (d ∷ ds) most h = absurd (suc-ne-zero (length ds) h)

pub returns-then-degrees-eq0 : goal.returns-then-degrees-eq0
returns-then-degrees-eq0 c = empty-list c.args.degrees.now c.args.most c.if-degrees-eq0.true
