-- The first return is never taken: no table is that long. A block as it came shows no pass, and one that shows pass 0 is moved.
use Rattle.std.proofs.Common.{arith, pow_pos}
use Rattle.theory.specs.MovedLines.{node_line-moved}
use Rattle.lines.specs.NodeOrders.{opened_of_table}
use Rattle.moves.proofs.MovePasses.{opened-lined}
use Rattle.moves.proofs.passes.move_block.Goals as goal

pub returns : goal.returns
returns c =
    let b = c.args.block in
    opened-lined b.some c.requires _ (λ k j h. node_line-moved (pow_pos 64) c.args.offset b.degree k j h)
    (c.make_passes.ensures _ (opened_of_table _ _ _ b.some c.requires (λ i p. omega (arith, c.slice_known-1.given i))))
