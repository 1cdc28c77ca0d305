-- The first pass over the block.
use Rattle.std.proofs.Common.{refl, pow_pos}
use Rattle.moves.specs.NodeRows.{top_opened}
use Rattle.moves.proofs.passes.RowsPairs.alone.Goals as goal

pub returns : goal.returns
returns c =
    let a = c.args in
    λ f r. top_opened a.self.offset (pow_pos 64) a.self.block.some c.requires.1 c.requires.0 refl c.wrapping_sub.ensures r c.add_row.ensures
