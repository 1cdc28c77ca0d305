-- The first pass over each line.
use Rattle.std.proofs.Common.{zero-lt-suc, pow_pos}
use Rattle.moves.specs.NodeRows.{top_opened}
use Rattle.moves.proofs.FirstLines.{unit}
use Rattle.moves.proofs.first.LinesPairs.alone.Goals as goal

pub returns : goal.returns
returns c =
    let a = c.args in
    record {
      same = c.add_next.ensures.same;
      line = λ l fits f r.
          top_opened a.self.offset (pow_pos 64) (zero-lt-suc 0) (unit _) c.requires.0 (unit _) c.wrapping_sub.ensures r (c.add_next.ensures.line l fits);
    }
