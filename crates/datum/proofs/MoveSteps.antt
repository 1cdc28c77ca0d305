-- The number of a move, test by test, and its steps: a table copied, moved along every variable modulo 2^64 and reduced is the moved form.
use Rattle.std.specs.Prelude.{◌≡◌, refl, Bool, true, false, ◌&&◌, cond, List, ℕ, zero, suc, ◌^◌, ◌≤◌, min, eqb, length}
use Rattle.std.proofs.Common.{ap, ◌∙◌}
use borrow.Author.Tests.{eq-eqb}
use Rattle.meaning.specs.Boxes.{cells}
use Rattle.meaning.specs.Values.{bound, box_reduced}
use Rattle.meaning.specs.Datum.{moved}
use Rattle.meaning.specs.Settings.{table_limit, fits_width, settings_number, call_number, first}
use Rattle.meaning.specs.Calls.{in_out_number, move_number}
use Rattle.theory.specs.Tables.{length-tabulate}
use Rattle.theory.specs.AcceptedCalls.{Ready}
use Rattle.theory.specs.Moved.{shifted, box_reduced-shifted}
use Rattle.settings.specs.Causes.{ready_passes, ready_high, settings-cells-le}
use Rattle.box_rows.specs.Rows.{holds}
use Rattle.box_rows.specs.Held.{reduce_held}

-- both tables first, then the offsets
pub move_number-eq : (total w : ℕ) (support ds c os out : List ℕ) →
    move_number total w support ds c os out ≡ first (in_out_number false total w support ds c out) (cond (eqb (length os) (length support)) 0 9)
unfolding move_number call_number
move_number-eq total w support ds c os out =
    go (settings_number false total (fits_width w) support ds) (eqb (length c) (cells ds)) (eqb (length os) (length support)) (eqb (length out) (cells ds))
  where
    go : (n : ℕ) (a b d : Bool) → first n (cond (a && b && d) 0 9) ≡ first (first n (cond (a && d) 0 9)) (cond b 0 9)
    go (suc n) a b d = refl
    go zero false b d = refl
    go zero true false true = refl
    go zero true false false = refl
    go zero true true true = refl
    go zero true true false = refl

module _ {total w : ℕ} {support ds c out : List ℕ} (os : List ℕ) (r : Ready false total w support ds c out) where
  -- there are at most twenty variables
  pub variables_few : length support ≤ 20
  variables_few = (ready_passes r).short

  -- the copy is made, each line is moved, and the box is reduced
  pub moved_of_steps : (t u x : List ℕ) → t ≡ c
      → u ≡ cond (eqb (length t) (cells ds)) (shifted (2 ^ 64) ds t os) t
      → x ≡ cond (holds ds (length u)) (box_reduced (bound (min w 64)) ds u) u → x ≡ moved w ds c os
  unfolding shifted
  moved_of_steps t u x first second third =
      reduce_held ds w (settings-cells-le table_limit false total (fits_width w) support ds r.settings) (ready_high r) u x size third
      ∙ ap (box_reduced (bound w) ds) along
      ∙ box_reduced-shifted w ds c os 64 (ready_high r)
    where
      along : u ≡ shifted (2 ^ 64) ds c os
      along = second ∙ rw (first, eq-eqb (length c) (cells ds) r.given_length) refl

      size : length u ≡ cells ds
      size = ap length along ∙ length-tabulate (cells ds) _
