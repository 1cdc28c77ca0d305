-- The loop: the bytes that are left, fed to the reader and table at hand, lead where the whole piece leads from the start.
use Rattle.std.proofs.Common.{◌≡◌, drop}
use Rattle.bench_file.specs.Steps.{state, fed}
use Rattle.bench_file.proofs.reader.Reader.feed.Given as goal

abbrev pub invariant-loop-byte : goal.invariant-loop-byte
invariant-loop-byte l = fed (state l.self l.values) (drop l.byte-index l.piece) ≡ fed (state l.initial.self l.initial.values) l.piece
