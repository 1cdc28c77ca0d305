-- What the check of a call's settings said, by the settings themselves: they are taken, with as many cells, or turned down for a reason.
use Rattle.std.specs.Prelude.{◌≡◌, Bool, List, ℕ, ◌≤◌, Result, Ok, Err}
use Rattle.meaning.specs.Boxes.{cells}
use Rattle.meaning.specs.Settings.{table_limit, fits_width}
use Rattle.meaning.specs.Calls.{settings_reply}
use Rattle.answers.specs.declared.Refusal.{Refusal}
use Rattle.answers.specs.Said.{said}
use Rattle.settings.specs.declared.Settings.{Settings}
use Rattle.settings.specs.Forms.{degrees_of}
use Rattle.settings.specs.Causes.{Passes, passes, settings-cells-le}
use Rattle.settings.specs.Settled.{Settled, Unsettled, settled, unsettled}

module _ {strict : Bool} (s : Settings) {answer : Result ℕ Refusal}
    (says : said answer ≡ settings_reply strict s.total s.bitwidth s.support.now (degrees_of s)) where
  pub taken : {count : ℕ} → answer ≡ Ok count → Settled strict s.total (fits_width s.bitwidth) s.support.now (degrees_of s) count
  unfolding settings_reply
  taken e = settled strict s.total (fits_width s.bitwidth) s.support.now (degrees_of s) says e

  pub turned_down : {r : Refusal} → answer ≡ Err r → Unsettled strict s.total (fits_width s.bitwidth) s.support.now (degrees_of s) r
  unfolding settings_reply
  turned_down e = unsettled strict s.total (fits_width s.bitwidth) s.support.now (degrees_of s) says e

-- what holds of settings that are taken
module _ {strict : Bool} {total : ℕ} {fits : Bool} {support ds : List ℕ} {count : ℕ} (s : Settled strict total fits support ds count) where
  pub taken_passes : Passes total fits support
  taken_passes = passes table_limit strict total fits support ds s.passes

  pub taken_small : cells ds ≤ table_limit
  taken_small = settings-cells-le table_limit strict total fits support ds s.passes
