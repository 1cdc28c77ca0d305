-- The check of settings at the program's limit.
use Rattle.std.proofs.Common.{Bool, true, ◌∙◌, ap}
use Rattle.meaning.specs.Boxes.{cells}
use Rattle.meaning.specs.Settings.{byte_limit, limited_number}
use Rattle.meaning.specs.Calls.{reply}
use Rattle.settings.specs.Forms.{degrees_of}
use Rattle.bench_file.specs.Layout.{head_number}
use Rattle.bench.proofs.answer.box_cells.Goals as goal

pub returns : goal.returns
unfolding head_number
returns c =
    let s = c.args.settings.now in
    c.check_within.ensures
    ∙ ap (λ (fits : Bool). reply (limited_number byte_limit true s.total fits s.support.now (degrees_of s)) (cells (degrees_of s))) c.width_fits.ensures
