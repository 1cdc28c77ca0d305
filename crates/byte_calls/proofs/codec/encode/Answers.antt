-- The loop keeps: the bytes of the entries before i are written.
use Rattle.std.proofs.Common.{◌≡◌, ◌∙◌, ap, subst, ℕ, ◌+◌, ◌*◌, ◌/◌, ◌%◌, ◌-◌, ◌≤◌, ◌<◌, List, length, arith}
use Rattle.std.specs.Int.{w64, to_le_bytes}
use Rattle.meaning.specs.Tables.{at}
use Rattle.theory.specs.Tables.{Filled, filled_done}
use Rattle.theory.specs.Parts.{put, filled_part}
use Rattle.byte_calls.specs.Bytes.{byte_of}
use Rattle.byte_calls.specs.ByteLaws.{byte_place, tabulate-encoded}
use Rattle.byte_calls.proofs.Entries.{length-le_bytes, byte-le_bytes}
use Rattle.byte_calls.proofs.codec.encode.Goals as goal

pub loop-i-preserved : goal.loop-i-preserved
loop-i-preserved c =
    let i = c.loop-i.i in
    let x = at c.args.words.now i in
    let t = c.loop-i.bytes in
    let ys = c.copy_from_slice.new.self in
    let end : i * 8 + 8 ≤ length t = omega (arith, c.loop-i.invariant.same, c.requires, c.loop-i-test.true) in
    let wrote : ys ≡ to_le_bytes w64 x = c.copy_from_slice.ensures.after ∙ c.to_le_bytes.ensures in
    let long : length ys ≡ i * 8 + 8 - i * 8 = omega (arith, ap length wrote, length-le_bytes x) in
    let next : i * 8 + 8 ≡ (i + 1) * 8 = omega arith in
    let byte = λ (j : ℕ) (h : j < i * 8 + 8 - i * 8).
    ap (λ (t : List ℕ). at t j) wrote ∙ byte-le_bytes x j (omega (arith, h)) ∙ byte_place c.args.words.now i j (omega (arith, h)) in
    let entry : ℕ → ℕ = λ n. byte_of (at c.args.words.now (n / 8)) (n % 8) in
    subst (λ (n : ℕ). Filled entry c.args.bytes.now (put (i * 8) (i * 8 + 8) t ys) n) next
    (filled_part entry c.args.bytes.now t (i * 8) (i * 8 + 8) ys c.loop-i.invariant (omega arith) end long byte)

pub returns : goal.returns
returns c =
    let k = c.args in
    filled_done _ _ c.loop-i.bytes (c.loop-i.i * 8) c.loop-i.invariant (omega (arith, c.requires, c.loop-i-test.false))
    ∙ tabulate-encoded k.words.now _ c.requires
