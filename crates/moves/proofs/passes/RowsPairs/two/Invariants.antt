-- The loop: over the block as row `done` has left it, the rows before `from` have their two passes, the others not yet, for whatever coefficients f; the
-- factors are those of the next row. The measure is the places left. It ends at the last row, which has one row above it.
use Rattle.std.proofs.Common.{◌≡◌, ◌-◌, ◌^◌, length}
use Rattle.lines.specs.Blocks.{size}
use Rattle.moves.specs.NodePairs.{Pairs}
use Rattle.moves.proofs.MovePasses.{Come}
use Rattle.moves.proofs.passes.RowsPairs.two.Given as goal

abbrev pub invariant-loop-from : goal.invariant-loop-from
invariant-loop-from l =
    let a = l.fn.self.offset in
    let b = l.fn.self.block in
    (length l.part ≡ size b)
    × Pairs (2 ^ 64) a b.stride b.degree l.done l.from l.near l.far
    × Come a b.stride b.degree (size b) l.done l.initial.from l.from l.initial.part l.part

abbrev pub decreases-loop-from : goal.decreases-loop-from
decreases-loop-from l = l.end - l.from
