-- What a grid costs, from the settings alone: the cells and the subtractions of recovery, and the rows, columns and matrix entries of a fit. Settings that
-- the call turns down have its number, and every count is 0.
use Rattle.std.specs.Prelude.{ℕ, zero, suc, ◌*◌, true, List, leb, length}
use Rattle.meaning.specs.Tables.{at}
use Rattle.meaning.specs.Sums.{sum}
use Rattle.meaning.specs.Boxes.{cells, digits}
use Rattle.meaning.specs.Settings.{fits_width, settings_number, limited_number}
use Rattle.meaning.specs.Calls.{truth}
use Rattle.meaning.specs.Fit.{Fit, fit_rows, fit_columns_of, fit_settings_number, columns}

-- the subtractions of pass p along variable i: one at each cell whose coordinate of that variable is p or more
unfoldable pub pass_subtractions : List ℕ → ℕ → ℕ → ℕ
unfolding sum cells digits
pass_subtractions ds i p = sum (cells ds) (λ n. truth (leb p (at (digits ds n) i)))

-- those along variable i, in the passes 1 to its degree
unfoldable pub variable_subtractions : List ℕ → ℕ → ℕ
unfolding sum pass_subtractions
variable_subtractions ds i = sum (at ds i) (λ p. pass_subtractions ds i (suc p))

-- those of recovery, along every variable
unfoldable pub subtractions : List ℕ → ℕ
unfolding sum variable_subtractions
subtractions ds = sum (length ds) (variable_subtractions ds)

-- a count where the number is 0, else 0
abbrev pub counted : ℕ → ℕ → ℕ
counted zero n = n
counted (suc k) n = 0

-- what recovery needs: a value and a coefficient for each cell, and so many subtractions
pub record RecoveryRoom : Type 0 where
  pub number : ℕ
  pub cell_count : ℕ
  pub subtraction_count : ℕ

abbrev pub recovery_room_of : ℕ → ℕ → ℕ → RecoveryRoom
recovery_room_of number c s = record { number = number; cell_count = counted number c; subtraction_count = counted number s }

unfoldable pub recovery_room_lem : ℕ → ℕ → List ℕ → List ℕ → RecoveryRoom
unfolding limited_number cells subtractions
recovery_room_lem total w support ds = recovery_room_of (settings_number true total (fits_width w) support ds) (cells ds) (subtractions ds)

-- what a fit needs: a weight and a target for each row, and a matrix of rows times columns; its lent tables are not looked at
pub record FitRoom : Type 0 where
  pub number : ℕ
  pub row_count : ℕ
  pub column_count : ℕ
  pub entry_count : ℕ

abbrev pub fit_room_of : ℕ → ℕ → ℕ → FitRoom
fit_room_of number r c =
    record { number = number; row_count = counted number r; column_count = counted number c; entry_count = counted number (r * c) }

unfoldable pub fit_room_lem : Fit → FitRoom
unfolding limited_number columns cells
fit_room_lem f = fit_room_of (fit_settings_number f) (fit_rows f) (length (fit_columns_of f))
