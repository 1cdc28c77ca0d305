-- The entries before place i are equal, in both pairs of lists. A no promises nothing.
use Rattle.std.proofs.Common.{◌≡◌, take}
use Rattle.sameness.proofs.checked.Checked.has_box_of.Given as goal

abbrev pub invariant-loop-i : goal.invariant-loop-i
invariant-loop-i l =
    let f = l.self in
    let g = l.other in (take l.i f.support.now ≡ take l.i g.support.now) × (take l.i f.degrees.now ≡ take l.i g.degrees.now)
