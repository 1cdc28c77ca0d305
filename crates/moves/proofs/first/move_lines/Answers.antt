-- Every line as it came shows no pass, and one that shows pass 0 is moved.
use Rattle.std.proofs.Common.{arith, pow_pos}
use Rattle.moves.proofs.FirstLines.{lines_moved}
use Rattle.moves.proofs.first.move_lines.Goals as goal

pub returns : goal.returns
returns c = lines_moved c.args.lines.offset (pow_pos 64) (λ i. omega (arith, c.slice_known-1.given i)) c.make_passes.ensures
