-- The room of recovery where its settings pass, where they are turned down, and what its counts are.
use Rattle.std.proofs.Common.{◌≡◌, refl, sym, ap, ap₂, ◌∙◌, true, List, ℕ, zero, suc, ◌^◌, ◌≤◌, ◌<◌, zero-le, suc-ne-zero, mul-le-mul, le_trans, le_of_eq, mul_comm, le-mul_of_pos_right, arith, length, replicate}
use Rattle.std.proofs.Math.ListN.{length-replicate, get_or-replicate}
use Rattle.meaning.specs.Tables.{at}
use Rattle.meaning.specs.Sums.{sum}
use Rattle.meaning.specs.Boxes.{cells}
use Rattle.meaning.specs.Settings.{table_limit, fits_width, cube, settings_number}
use Rattle.meaning.specs.Counts.{pass_subtractions, variable_subtractions, subtractions, recovery_room_of, recovery_room_lem}
use Rattle.theory.specs.Sums.{sum_eq}
use Rattle.theory.specs.Boxes.{cells_pos, cells_power}
use Rattle.answers.specs.declared.Refusal.{Refusal}
use Rattle.answers.specs.Said.{code}
use Rattle.answers.specs.Laws.{code-suc}
use Rattle.settings.specs.Causes.{passes, settings-cells-le}
use Rattle.room.specs.Subtractions.{twice_cube}
use Rattle.room.specs.Told.{room_told}
use Rattle.room.specs.Promises.{reached, Costs}

-- the degree of a box with one degree is below its cells
degree_below : (k d : ℕ) → 0 < k → d < cells (replicate k d)
unfolding cells
degree_below zero d h = omega arith
degree_below (suc k) d h =
    le_trans (le-mul_of_pos_right (suc d) (cells_pos (replicate k d))) (le_of_eq (mul_comm (suc d) (cells (replicate k d))))

-- its subtractions, pass by pass
steps-cube : (k d : ℕ) → subtractions (replicate k d) ≡ sum k (λ i. sum d (λ p. reached (replicate k d) i (suc p)))
unfolding subtractions variable_subtractions pass_subtractions
steps-cube k d =
    ap (λ (n : ℕ). sum n (λ i. sum (at (replicate k d) i) (λ p. reached (replicate k d) i (suc p)))) (length-replicate k d)
    ∙ sum_eq k (λ i l. ap (λ (n : ℕ). sum n (λ p. reached (replicate k d) i (suc p))) (get_or-replicate k i d 0 l))

-- counts beside a refusal do not matter
turned_counts : (r : Refusal) (c s : ℕ) → room_told (code r) 0 0 ≡ recovery_room_of (code r) c s
turned_counts r c s =
    ap (λ (n : ℕ). room_told n 0 0) (code-suc r) ∙ sym (ap (λ (n : ℕ). recovery_room_of n c s) (code-suc r))

module _ (total w : ℕ) (support ds : List ℕ) where
  abbrev number : ℕ
  number = settings_number true total (fits_width w) support ds

  pub room_turned : (r : Refusal) → number ≡ code r → room_told (code r) 0 0 ≡ recovery_room_lem total w support ds
  unfolding recovery_room_lem
  room_turned r e =
      turned_counts r (cells ds) (subtractions ds) ∙ ap (λ (n : ℕ). recovery_room_of n (cells ds) (subtractions ds)) (sym e)

  pub room_passed : (c s : ℕ) → number ≡ 0 → c ≡ cells ds → s ≡ subtractions ds → room_told 0 c s ≡ recovery_room_lem total w support ds
  unfolding recovery_room_lem
  room_passed c s e q r = ap₂ (recovery_room_of 0) q r ∙ ap (λ (n : ℕ). recovery_room_of n (cells ds) (subtractions ds)) (sym e)

-- what its counts are
module _ (total w : ℕ) (support : List ℕ) (d : ℕ) where
  abbrev k : ℕ
  k = length support

  abbrev box : List ℕ
  box = cube support d

  few_subtractions : settings_number true total (fits_width w) support box ≡ 0 → subtractions box < 2 ^ 36
  few_subtractions e =
      let pass = passes table_limit _ _ _ _ _ e in
      let small = settings-cells-le table_limit _ _ _ _ _ e in
      let low : d ≤ 65535 = omega (arith, degree_below k d pass.not_empty, small) in
      omega (arith, twice_cube k d, mul-le-mul (mul-le-mul pass.short small) low)

  pub room_costs : Costs k d (recovery_room_lem total w support box)
  unfolding recovery_room_lem
  room_costs = go (settings_number true total (fits_width w) support box) refl
    where
      go : (n : ℕ) → settings_number true total (fits_width w) support box ≡ n → Costs k d (recovery_room_of n (cells box) (subtractions box))
      go zero e =
          record {
            points = λ h. cells_power k d;
            steps = λ h. steps-cube k d;
            twice = λ h. twice_cube k d;
            none = λ h. absurd (h refl);
            small = (settings-cells-le table_limit true total (fits_width w) support box e, few_subtractions e);
          }
      go (suc n) e =
          record {
            points = λ h. absurd (suc-ne-zero n h);
            steps = λ h. absurd (suc-ne-zero n h);
            twice = λ h. absurd (suc-ne-zero n h);
            none = λ h. (refl, refl);
            small = (zero-le, omega arith);
          }
