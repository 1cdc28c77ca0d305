-- The settings of the calls on bytes: what they are on the indices that the support's bytes hold, the boxes that they name, and the fit that they ask for.
use Rattle.std.specs.Prelude.{List, ℕ, replicate}
use denote.Ref.{Bor}
use Rattle.meaning.specs.Settings.{cube}
use Rattle.meaning.specs.Fit.{Fit, fit_of}
use Rattle.settings.specs.declared.Settings.{Settings}
use Rattle.room.specs.declared.sizes.FitSettings.{FitSettings}
use Rattle.byte_calls.specs.declared.checks.ByteSettings.{ByteSettings}
use Rattle.byte_calls.specs.declared.fit.ByteFitSettings.{ByteFitSettings}
use Rattle.byte_calls.specs.Bytes.{decoded}
use Rattle.byte_calls.specs.Calls.{fit_held}

-- a table of n zeros: what a local table has at first, and what is lent of a longer one
abbrev pub zeros : ℕ → List ℕ
zeros n = replicate n 0

-- ---- recovery and value

-- the settings with these indices as support
abbrev pub settings_on : ByteSettings → Bor (List ℕ) → Settings
settings_on s indices = record { support = indices; total = s.total; bitwidth = s.bitwidth; max_degree = s.max_degree }

-- the degrees of the box that they name, one for each index of the support
abbrev pub byte_degrees : ByteSettings → List ℕ
byte_degrees s = cube (decoded s.support.now) s.max_degree

-- ---- the fit

abbrev pub fit_settings_on : ByteFitSettings → Bor (List ℕ) → FitSettings
fit_settings_on s indices = record { support = indices; total = s.total; bitwidth = s.bitwidth; max_degree = s.max_degree; grid_degree = s.grid_degree }

-- the settings of its grid
abbrev pub byte_grid : ByteFitSettings → ByteSettings
byte_grid s = record { support = s.support; count = s.count; total = s.total; bitwidth = s.bitwidth; max_degree = s.grid_degree }

-- the fit that they ask for, on weights and targets
abbrev pub fit_held_by : ByteFitSettings → List ℕ → List ℕ → Fit
fit_held_by s weights targets = fit_held s.total s.bitwidth s.support.now s.max_degree s.grid_degree weights targets

-- the call on the tables that the bytes hold, with zeros lent for as many entries, rows and cells
abbrev pub fit_lent : FitSettings → List ℕ → List ℕ → ℕ → ℕ → ℕ → Fit
fit_lent s weights targets entries rows cells =
    fit_of s.total s.bitwidth s.support.now s.max_degree s.grid_degree (decoded weights) (decoded targets) (zeros entries) (zeros rows) (zeros cells)
