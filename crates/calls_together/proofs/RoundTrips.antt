-- Conversions undo one another, and the bytes that recovery left are a table that can be lent on.
use Rattle.std.proofs.Common.{◌≡◌, sym, ap, ◌∙◌, false, ℕ, ◌%◌, ◌^◌, ◌<◌, List, pow_pos}
use Rattle.meaning.specs.Tables.{at}
use Rattle.meaning.specs.Boxes.{cells}
use Rattle.meaning.specs.Conversions.{falling_box, power_box}
use Rattle.meaning.specs.Calls.{left, in_out_number, convert_left}
use Rattle.theory.specs.Tables.{at-tabulate}
use Rattle.theory.specs.ConversionLaws.{power_box-falling_box, falling_box-power_box}

-- what an accepted conversion leaves
module _ (total w : ℕ) (support ds : List ℕ) where
  converted : (c out box : List ℕ) {number : ℕ} {after : List ℕ} → number ≡ in_out_number false total w support ds c out
      → after ≡ convert_left total w support ds c out box → number ≡ 0 → after ≡ box
  unfolding convert_left
  converted c out box e f z = f ∙ ap (λ (k : ℕ). left k box out) (sym e ∙ z)

  module _ (c there back x y : List ℕ) {n k : ℕ} (said : n ≡ in_out_number false total w support ds c x)
      (said' : k ≡ in_out_number false total w support ds there y) where
    -- there and back
    pub powers_again : there ≡ convert_left total w support ds c x (falling_box (2 ^ w) ds c)
        → back ≡ convert_left total w support ds there y (power_box (2 ^ w) ds there)
        → n ≡ 0 → k ≡ 0 → (i : ℕ) → i < cells ds → at back i ≡ at c i % 2 ^ w
    powers_again e f z z' i l =
        ap (λ (t : List ℕ). at t i)
        (converted there y _ said' f z' ∙ ap (power_box (2 ^ w) ds) (converted c x _ said e z) ∙ power_box-falling_box (pow_pos w) ds c)
        ∙ at-tabulate (cells ds) _ i l

    -- back and there
    pub falling-again : there ≡ convert_left total w support ds c x (power_box (2 ^ w) ds c)
        → back ≡ convert_left total w support ds there y (falling_box (2 ^ w) ds there)
        → n ≡ 0 → k ≡ 0 → (i : ℕ) → i < cells ds → at back i ≡ at c i % 2 ^ w
    falling-again e f z z' i l =
        ap (λ (t : List ℕ). at t i)
        (converted there y _ said' f z' ∙ ap (falling_box (2 ^ w) ds) (converted c x _ said e z) ∙ falling_box-power_box (pow_pos w) ds c)
        ∙ at-tabulate (cells ds) _ i l
