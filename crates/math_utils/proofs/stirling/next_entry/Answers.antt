-- A product that is cut to 64 bits and a sum that is cut to the width.
use Rattle.std.proofs.Common.{ℕ, ◌+◌, ◌*◌, ◌%◌, ◌^◌, min, ap, ◌∙◌}
use Rattle.math_utils.proofs.Entries.{sum-cut}
use Rattle.math_utils.proofs.stirling.next_entry.Goals as goal

pub returns : goal.returns
returns c =
    let a = c.args in
    c.mod_add.ensures
    ∙ ap (λ (x : ℕ). (a.left + x) % 2 ^ min a.bitwidth 64) c.wrapping_mul.ensures
    ∙ sum-cut a.bitwidth a.left (a.factor * a.above) c.requires
