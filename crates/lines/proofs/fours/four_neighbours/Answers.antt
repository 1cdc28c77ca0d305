use Rattle.std.proofs.Common.{ℕ, ◌+◌, ◌^◌, ◌<◌, arith, length-set}
use Rattle.meaning.specs.Tables.{at}
use Rattle.lines.specs.FourTerms.{words_four}
use Rattle.lines.specs.Neighbours.{neighbours_done, four_step}
use Rattle.lines.proofs.fours.four_neighbours.Goals as goal

pub loop-i-preserved : goal.loop-i-preserved
loop-i-preserved g c =
    let i = c.loop-i.i in
    let word : (x : ℕ) → at c.loop-i.table x < 2 ^ 64 = λ x. omega (arith, c.slice_known-in-loop-i-1.given x) in (
      simp length-set (omega arith),
      four_step _ (g.met.T.FourTransform.local c.args.transform (2 ^ 64)) _ c.loop-i.table c.loop-i.i c.loop-i.invariant.1 c.four-four.result
          (c.four-four.ensures (words_four (word i) (word (i + 1)) (word (i + 2)) (word (i + 3)))) c.loop-i-test.true,
    )

pub returns : goal.returns
returns g c = neighbours_done _ 3 _ c.loop-i.table c.loop-i.i c.loop-i.invariant.1 c.loop-i.invariant.0 c.requires (omega arith)
