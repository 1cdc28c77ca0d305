-- The loop keeps: the entries before i are filled.
use Rattle.std.proofs.Common.{◌/◌, ◌<◌, length, get_or, [], ap, ◌∙◌, arith}
use Rattle.std.specs.Int.{w64, from_le_bytes}
use Rattle.theory.specs.Tables.{filled_step, filled_done}
use Rattle.byte_calls.specs.ByteLaws.{tabulate-decoded}
use Rattle.byte_calls.proofs.Entries.{chunk_entry}
use Rattle.byte_calls.proofs.codec.decode.Goals as goal

pub loop-i-preserved : goal.loop-i-preserved
loop-i-preserved c =
    let bytes = c.args.bytes.now in
    let i = c.loop-i.i in
    let within : i < length bytes / 8 = omega (arith, c.requires, c.loop-i-test.true, c.loop-i.auto.words) in
    filled_step _ _ c.loop-i.words i _ c.loop-i.invariant (omega (arith, c.loop-i-test.true, c.loop-i.auto.words))
    (c.from_le_bytes.ensures ∙ ap (λ chunks. from_le_bytes w64 (get_or chunks i [])) c.as_chunks.ensures.front ∙ chunk_entry bytes i within)

pub returns : goal.returns
returns c =
    filled_done _ _ c.loop-i.words c.loop-i.i c.loop-i.invariant (omega (arith, c.loop-i.invariant.same, c.loop-i-test.false, c.loop-i.auto.words))
    ∙ tabulate-decoded c.args.bytes.now _ c.requires
