-- The library's `any` over the chunks is the test of the entries that they hold.
use Rattle.std.proofs.Common.{◌∙◌, ℕ, ◌/◌, List, leb, length, rules, tests}
use Rattle.std.specs.Int.{w64, from_le_bytes}
use Rattle.std.specs.Simd.{first_chunks}
use Rattle.std.proofs.lemmas.Iterator.{YieldsList-from_slice}
use Rattle.std.proofs.lemmas.Iterator.Search.{any_from_yields_List}
use Rattle.byte_calls.proofs.Entries.{some-chunks}
use Rattle.byte_calls.proofs.codec.index_past.Goals as goal

pub returns : goal.returns
returns c =
    let past = leb c.args.total in
    let bytes = c.args.support.now in
    let chunks = first_chunks 8 (length bytes / 8) bytes in
    any_from_yields_List (λ (b : List ℕ). past (from_le_bytes w64 b)) _ _ _ c.any.ensures.ran
    (YieldsList-from_slice chunks (c.iter.ensures.rest ∙ c.as_chunks.ensures.front)) (λ x b q k. search (rules, tests))
    ∙ some-chunks past bytes
