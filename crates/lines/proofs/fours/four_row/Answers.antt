-- The line's numbers are those at the start, for whatever table t the rows are of.
use Rattle.std.proofs.Common.{◌≡◌, ℕ, ◌+◌, ◌*◌, ◌<◌, length, sym, ◌∙◌, ◌^◌, arith}
use Rattle.meaning.specs.Tables.{at}
use Rattle.lines.specs.FourTerms.{words_four}
use Rattle.lines.specs.RowLoops.{rows_step}
use Rattle.lines.proofs.fours.four_row.Goals as goal

pub returns : goal.returns
returns g c =
    λ t r. let n = c.args.stride in
    let word : (x : ℕ) → at c.args.part.now x < 2 ^ 64 = λ x. omega (arith, c.slice_known-1.given x) in
    let whole : length t ≡ n * 4 = sym r.same ∙ c.requires.1 in
    rows_step _ n t whole _ c.args.i r c.requires.0 (g.met.T.FourTransform.local c.args.transform (2 ^ 64)) c.four-four.result
    (c.four-four.ensures (words_four (word c.args.i) (word (n + c.args.i)) (word (n + n + c.args.i)) (word (n + n + n + c.args.i))))
