-- The sizes of a fit, from its settings alone: what the answers say.
use Rattle.std.specs.Prelude.{List, [], ℕ, Result, Ok, Err, min, length}
use Rattle.meaning.specs.Replies.{Reply}
use Rattle.meaning.specs.Calls.{reply}
use Rattle.meaning.specs.Fit.{Fit, fit_of, fit_columns_of, fit_settings_number}
use Rattle.meaning.specs.Counts.{FitRoom}
use Rattle.answers.specs.declared.Refusal.{Refusal}
use Rattle.answers.specs.Said.{code}
use Rattle.settings.specs.declared.Settings.{Settings}
use Rattle.room.specs.declared.sizes.FitRoom as answer
use Rattle.room.specs.declared.sizes.FitSettings.{FitSettings}

-- a fit whose tables are left open: total variables, width, support, max_degree, grid_degree
abbrev pub fit_settings : ℕ → ℕ → List ℕ → ℕ → ℕ → Fit
fit_settings total w support max-degree grid-degree = fit_of total w support max-degree grid-degree [] [] [] [] []

-- the one that settings ask for
abbrev pub fit_asked : FitSettings → Fit
fit_asked s = fit_settings s.total s.bitwidth s.support.now s.max_degree s.grid_degree

-- the settings of its grid, and of its answer's box
abbrev pub grid_of : FitSettings → Settings
grid_of s = record { support = s.support; total = s.total; bitwidth = s.bitwidth; max_degree = s.grid_degree }

abbrev pub answer_of : FitSettings → Settings
answer_of s = record { support = s.support; total = s.total; bitwidth = s.bitwidth; max_degree = min s.max_degree s.grid_degree }

-- a returned number and stored counts
abbrev pub fit_room_told : ℕ → ℕ → ℕ → ℕ → FitRoom
fit_room_told n r c e = record { number = n; row_count = r; column_count = c; entry_count = e }

-- the number and the counts that an answer says
abbrev pub fit_room_said : Result answer.FitRoom Refusal → FitRoom
fit_room_said (Ok room) = fit_room_told 0 room.rows room.columns room.entries
fit_room_said (Err r) = fit_room_told (code r) 0 0 0

-- the number of columns
abbrev pub columns_reply : Fit → Reply
columns_reply f = reply (fit_settings_number f) (length (fit_columns_of f))
