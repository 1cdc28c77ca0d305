-- The loop: over the lines as their number `done` has been left, the numbers before `place` of each line have their two passes, the others not yet, for
-- whatever coefficients f; the factors are those of the next number. It ends at the last number, which has one number above it.
use Rattle.std.proofs.Common.{suc, ◌^◌, ◌<◌}
use Rattle.moves.specs.NodePairs.{Pairs}
use Rattle.moves.specs.NodeLines.{EachLine}
use Rattle.moves.proofs.MovePasses.{Come}
use Rattle.moves.proofs.first.move_number_pair.Given as goal

abbrev pub invariant-loop-place : goal.invariant-loop-place
invariant-loop-place l =
    let a = l.fn.lines.offset in
    let d = l.fn.lines.degree in
    (l.place < d)
    × Pairs (2 ^ 64) a 1 d l.done l.place l.near l.far
    × EachLine d (Come a 1 d (suc d) l.done l.initial.place l.place) l.initial.part l.part
