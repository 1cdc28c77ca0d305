-- Reducing what the conversion to falling factorials left gives the normal form.
use Rattle.std.specs.Prelude.{◌≡◌, false, cond, List, ℕ, ◌^◌, ◌≤◌, min, length}
use Rattle.std.proofs.Common.{sym, ◌∙◌, ap}
use Rattle.meaning.specs.Boxes.{cells}
use Rattle.meaning.specs.Values.{bound, box_reduced}
use Rattle.meaning.specs.Conversions.{falling_box, normal_box}
use Rattle.meaning.specs.Settings.{table_limit, fits_width}
use Rattle.meaning.specs.Calls.{in_out_number, convert_left, left}
use Rattle.theory.specs.Tables.{length-tabulate}
use Rattle.theory.specs.AcceptedCalls.{Ready, ready}
use Rattle.theory.specs.ConversionLaws.{normal_box-eq}
use Rattle.settings.specs.Causes.{ready_passes, ready_high, settings-cells-le}
use Rattle.box_rows.specs.Rows.{holds}
use Rattle.box_rows.specs.Held.{reduce_held}

module _ (total w : ℕ) (support ds c out : List ℕ) (accepted : in_out_number false total w support ds c out ≡ 0) where
  passed : Ready false total w support ds c out
  passed = ready false total w support ds c out accepted

  -- there are at most twenty variables
  pub variables_few : length support ≤ 20
  variables_few = (ready_passes passed).short

  module _ (t : List ℕ) (converted : t ≡ convert_left total w support ds c out (falling_box (2 ^ w) ds c)) where
    -- the conversion was accepted
    falling : t ≡ falling_box (2 ^ w) ds c
    unfolding convert_left
    falling = converted ∙ ap (λ (n : ℕ). left n (falling_box (2 ^ w) ds c) out) accepted

    size : length t ≡ cells ds
    unfolding falling_box
    size = ap length falling ∙ length-tabulate (cells ds) _

    pub reduced_normal : (x : List ℕ) → x ≡ cond (holds ds (length t)) (box_reduced (bound (min w 64)) ds t) t
        → x ≡ convert_left total w support ds c out (normal_box w ds c)
    unfolding convert_left box_reduced
    reduced_normal x e =
        reduce_held ds w (settings-cells-le table_limit false total (fits_width w) support ds passed.settings) (ready_high passed) t x size e
        ∙ ap (box_reduced (bound w) ds) falling
        ∙ sym (normal_box-eq w ds c)
        ∙ ap (λ (n : ℕ). left n (normal_box w ds c) out) (sym accepted)
