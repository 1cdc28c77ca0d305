-- The loop keeps: the bytes of the entries before i are written.
use Rattle.std.proofs.Common.{◌*◌, ◌/◌, ◌%◌}
use Rattle.meaning.specs.Tables.{at}
use Rattle.theory.specs.Tables.{Filled}
use Rattle.byte_calls.specs.Bytes.{byte_of}
use Rattle.byte_calls.proofs.codec.encode.Given as goal

abbrev pub invariant-loop-i : goal.invariant-loop-i
invariant-loop-i l = Filled (λ n. byte_of (at l.words (n / 8)) (n % 8)) l.initial.bytes l.bytes (l.i * 8)
