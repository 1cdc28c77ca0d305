-- A turn reads one byte more of the piece (`fed_next`), and at its end none is left.
use Rattle.std.proofs.Common.{sym, ◌∙◌}
use Rattle.bench_file.specs.StepLaws.{fed_next, fed-end}
use Rattle.bench_file.proofs.reader.Reader.feed.Goals as goal

pub loop-byte-preserved : goal.loop-byte-preserved
loop-byte-preserved c = sym (fed_next _ _ c.args.piece.now c.loop-byte.byte-index c.loop-byte-test.true c.read_byte-self.ensures) ∙ c.loop-byte.invariant

pub returns : goal.returns
returns c = sym (fed-end _ c.args.piece.now c.loop-byte.byte-index c.loop-byte-test.false) ∙ c.loop-byte.invariant
