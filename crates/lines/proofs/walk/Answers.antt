-- A table of another length is left. The loop: the variables before `variable` are done, each by the transform that `along` gave.
use Rattle.std.proofs.Common.{ℕ, ◌^◌, length, sym, ap, ◌∙◌, zero-add, arith}
use Rattle.std.proofs.Math.Path.{fun_ext}
use Rattle.meaning.specs.Tables.{tabulate, at}
use Rattle.meaning.specs.Differences.{newton}
use Rattle.theory.specs.AlongEach.{Line}
use Rattle.lines.specs.InPlace.{newton_local}
use Rattle.lines.specs.FlatTables.{Local, strided}
use Rattle.lines.specs.FlatLoops.{variables_start, block_fits, block_divides, variables_step, variables-done, walk_each}
use Rattle.lines.proofs.walk.Goals as goal

-- what is asked does not depend on the transforms: any will do
pub transform_variable-stride-requires : goal.transform_variable-stride-requires
transform_variable-stride-requires g c =
    let l = c.loop-variable in
    let ds = c.args.degrees.now in
    let r = variables_start (λ i. newton 1) (λ i. newton_local 1) ds l.table l.variable l.stride (omega arith) l.invariant.0 l.invariant.1 in (
      l.invariant.0,
      block_fits _ (λ i. newton_local 1) _ l.table l.variable l.stride r c.loop-variable-test.true,
      block_divides _ (λ i. newton_local 1) _ l.table l.variable l.stride r c.loop-variable-test.true,
    )

pub loop-variable-preserved : goal.loop-variable-preserved
loop-variable-preserved g c =
    let l = c.loop-variable in
    let h = c.loop-variable-test.true in
    let local : (i : ℕ) → Local (g.T.FourTransform.line c.along.result (2 ^ 64)) = λ i. g.met.T.FourTransform.local c.along.result (2 ^ 64) in
    let r = variables_start _ local c.args.degrees.now l.table l.variable l.stride (omega arith) l.invariant.0 l.invariant.1 in
    let done = c.transform_variable-stride.ensures in
    let step = variables_step _ local _ l.table l.variable l.stride r h _ done.leaves in (
      rw done.stride step.pos,
      rw done.stride step.whole,
      λ ts given.
          rw done.stride
          (variables_step _ (λ i. g.met.T.FourTransform.local (ts i) (2 ^ 64)) _ l.table l.variable l.stride (l.invariant.2 ts given) h _
          (rw (given l.variable c.along.result c.along.ensures) at done.leaves)),
    )

pub returns : goal.returns
returns g c =
    λ ts given. let l = c.loop-variable in
    let t = c.args.table.now in
    let ds = c.args.degrees.now in
    let lines : ℕ → Line = λ i. g.T.FourTransform.line (ts i) (2 ^ 64) in
    rw (sym c.has_box.ensures ∙ c.if-not-has_box.false)
    (variables-done _ (λ i. g.met.T.FourTransform.local (ts i) (2 ^ 64)) _ l.table l.variable l.stride (l.invariant.2 ts given) c.loop-variable-test.false
    ∙ ap (λ ls. tabulate (length t) (strided ls 1 ds (at t))) (fun_ext λ i. ap lines (zero-add i))
    ∙ walk_each lines ds t)
