-- The loop: over the line as number `done` has been left, the numbers before i have their two passes, the others not yet, for whatever coefficients f; the
-- factors are those of the next number. It ends at the last number, which has one number above it.
use Rattle.std.proofs.Common.{◌≡◌, suc, ◌^◌, ◌<◌, length}
use Rattle.moves.specs.NodePairs.{Pairs}
use Rattle.moves.proofs.MovePasses.{Come}
use Rattle.moves.proofs.first.move_line_pair.Given as goal

abbrev pub invariant-loop-i : goal.invariant-loop-i
invariant-loop-i l =
    let a = l.fn.lines.offset in
    let d = l.fn.lines.degree in
    (length l.part ≡ suc d)
    × (l.i < d)
    × Pairs (2 ^ 64) a 1 d l.done l.i l.near l.far
    × Come a 1 d (suc d) l.done l.initial.i l.i l.initial.part l.part
