-- A form with one degree for all variables.
use Rattle.std.specs.Prelude.{List, ℕ}
use Rattle.meaning.specs.Settings.{cube}
use Rattle.meaning.specs.Sameness.{Form}
use Rattle.settings.specs.declared.Settings.{Settings}
use Rattle.settings.specs.declared.Form.{Form as Lent}

abbrev pub cube_form : ℕ → ℕ → List ℕ → ℕ → List ℕ → Form
cube_form total w support d c = record { total = total; width = w; support = support; degrees = cube support d; coefficients = c }

-- the degrees of the box that settings name, one for each support variable
abbrev pub degrees_of : Settings → List ℕ
degrees_of s = cube s.support.now s.max_degree

-- the form that they make of coefficients
abbrev pub form_of : Settings → List ℕ → Form
form_of s c = cube_form s.total s.bitwidth s.support.now s.max_degree c

-- the form that is lent
abbrev pub form_lent : Lent → Form
form_lent f = form_of f.settings f.coeffs.now
