-- No variable is left: one list or none. Else the loop walks over the exponents of the first variable.
use Rattle.std.proofs.Common.{refl, ap, length, length-drop, arith}
use Rattle.weighted_poly_fit.proofs.Pasted.{pasted_part}
use Rattle.weighted_poly_fit.proofs.Steps.{rest_whole, listing_last, listed_last, listed_nothing, steps-start, steps-fits, steps_room, steps_next, steps-done}
use Rattle.weighted_poly_fit.proofs.columns.+enumerate_basis_recurse.Goals as goal

pub slice_bounds-write_list-end : goal.slice_bounds-write_list-end
slice_bounds-write_list-end t c =
    let a = c.args in
    omega (
      arith,
      c.requires.left_in_bounds,
      ap length (listing_last a.table.now a.at a.current.now a.degrees.now c.if-degrees-eq0.true a.left c.if-left-ne0.false),
    )

pub returns-then-left-ne0 : goal.returns-then-left-ne0
returns-then-left-ne0 t c =
    let a = c.args in
    listed_nothing a.table.now a.at a.current.now a.degrees.now c.if-degrees-eq0.true a.left c.if-left-ne0.true

pub returns-then-degrees-eq0 : goal.returns-then-degrees-eq0
returns-then-degrees-eq0 t c =
    let a = c.args in
    listed_last a.table.now a.at a.current.now a.degrees.now c.if-degrees-eq0.true a.left c.if-left-ne0.false _
    (pasted_part a.table.now a.at a.current.now c.write_list.ensures)

pub loop-e-init : goal.loop-e-init
loop-e-init t c =
    let p = c.requires in
    steps-start
    (record { some = omega (arith, c.if-degrees-eq0.false); fits = p.degrees_in_bounds; spot = refl; top = c.min-highest.ensures; room = p.left_in_bounds })

pub enumerate_basis_recurse-next-requires : goal.enumerate_basis_recurse-next-requires
enumerate_basis_recurse-next-requires t c =
    let i = c.loop-e.invariant in
    let h = c.loop-e-test.true in
    let ds = c.args.degrees.now in
    (omega (arith, c.decreases, ap length (rest_whole ds), length-drop 1 ds, i.entry.some), (steps-fits i h, steps_room i h))

pub loop-e-preserved : goal.loop-e-preserved
loop-e-preserved t c =
    let k = c.enumerate_basis_recurse-next in
    steps_next c.loop-e.invariant c.loop-e-test.true _ _ _ k.auto.current k.ensures

pub returns-else-degrees-eq0-2 : goal.returns-else-degrees-eq0-2
returns-else-degrees-eq0-2 t c =
    let k = c.enumerate_basis_recurse-next in
    steps-done (steps_next c.loop-e.invariant c.loop-e-test.true _ _ _ k.auto.current k.ensures) (omega arith)
