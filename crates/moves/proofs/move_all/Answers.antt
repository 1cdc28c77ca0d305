-- Along each variable goes the move by its offset, 0 where there is none.
use Rattle.std.proofs.Common.{◌≡◌, ℕ, Bool, true, false, ◌^◌, ◌==◌, List, length, cond, refl, eqb-true}
use Rattle.meaning.specs.Tables.{at}
use Rattle.meaning.specs.Boxes.{cells}
use Rattle.theory.specs.MovedLines.{moved_line}
use Rattle.theory.specs.Moved.{shifted, shifted-eq}
use Rattle.lines.specs.Transforms.{transformed_each}
use Rattle.moves.proofs.move_all.Goals as goal

-- a table that has a number for each cell is moved
moved_table : (ds t os : List ℕ) {u : List ℕ}
    → u ≡ cond (length t == cells ds) (transformed_each (λ i. moved_line (2 ^ 64) (at os i)) ds t) t
    → u ≡ cond (length t == cells ds) (shifted (2 ^ 64) ds t os) t
moved_table ds t os {u} h = go (length t == cells ds) refl h
  where
    go : (b : Bool) → (length t == cells ds) ≡ b → u ≡ cond b (transformed_each (λ i. moved_line (2 ^ 64) (at os i)) ds t) t
        → u ≡ cond b (shifted (2 ^ 64) ds t os) t
    go true e h = shifted-eq (2 ^ 64) ds t os (eqb-true _ _ e) h
    go false e h = h

pub returns : goal.returns
returns c =
    let k = c.args in
    moved_table k.degrees.now k.table.now k.offsets.now c.transform_each.ensures
