-- The loop keeps: the entries before i are filled.
use Rattle.std.proofs.Common.{◌*◌}
use Rattle.theory.specs.Tables.{Filled}
use Rattle.byte_calls.specs.Bytes.{number_at}
use Rattle.byte_calls.proofs.codec.decode.Given as goal

abbrev pub invariant-loop-i : goal.invariant-loop-i
invariant-loop-i l = Filled (λ n. number_at l.bytes (n * 8) 8) l.initial.words l.words l.i
