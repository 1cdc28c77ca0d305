-- The check of settings at the test of the width.
use Rattle.std.specs.Prelude.{Bool}
use Rattle.std.proofs.Common.{◌∙◌, ap}
use Rattle.meaning.specs.Boxes.{cells}
use Rattle.meaning.specs.Settings.{table_limit, limited_number}
use Rattle.meaning.specs.Calls.{reply, settings_reply}
use Rattle.settings.specs.Forms.{degrees_of}
use Rattle.settings.proofs.Settings.check.Goals as goal

pub returns : goal.returns
unfolding settings_reply
returns c =
    let s = c.args.self.now in
    c.check_within.ensures
    ∙ ap (λ (b : Bool). reply (limited_number table_limit c.args.strict s.total b s.support.now (degrees_of s)) (cells (degrees_of s)))
    c.width_fits.ensures
