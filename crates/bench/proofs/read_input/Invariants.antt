-- The loop: some bytes, which the source gave, lead a new reader and the lent table to those at hand, and a piece that is read is appended to these bytes.
use Rattle.std.proofs.Common.{◌≡◌, length}
use Rattle.bench.specs.Answers.{LedFrom}
use Rattle.bench.proofs.read_input.Given as goal

abbrev pub invariant-loop : goal.invariant-loop
invariant-loop g l = record {
  same_length : length l.values ≡ length l.initial.values;
  piece : 65536 ≡ length l.piece;
  led : LedFrom (g.R.Read.remaining l.initial.source) (g.R.Read.remaining l.source) l.initial.values l.input.reader l.values l.input.left;
}
