-- The masks that are laid out are those of the box's rows (`rows_laid`).
use Rattle.std.proofs.Common.{replicate, sym, refl, ◌∙◌, length-take-le}
use Rattle.box_rows.specs.Rows.{rows_laid}
use Rattle.box_rows.proofs.walk.by_rows.Goals as goal

pub slice_bounds-rows-end : goal.slice_bounds-rows-end
slice_bounds-rows-end g c =
    let out = c.lay_out.ensures in
    let rows = rows_laid c.args.part.now.degrees.now (replicate 256 0) _ _ refl (sym c.unwrap-first.ensures ∙ out.variables) out.masks in
    sym (length-take-le _ _ rows.within)

pub invariant_of-rows : goal.invariant_of-rows
invariant_of-rows g c =
    let out = c.lay_out.ensures in
    let rows = rows_laid c.args.part.now.degrees.now (replicate 256 0) _ _ refl (sym c.unwrap-first.ensures ∙ out.variables) out.masks in
    record { room = rows.room; laid = rows.laid }
