-- Lines that the transform leaves are left, and a first variable may have a way of its own. The loop: the blocks before `from` are transformed, the others
-- as they were. The block size divides the length, so that nothing is left where no further block fits.
use Rattle.std.proofs.Common.{◌≡◌, ◌*◌, ◌^◌, ◌%◌, suc, length, ◌∙◌, arith}
use Rattle.lines.specs.LowDegrees.{left-blocked}
use Rattle.lines.specs.FlatLoops.{blocks_step, blocks_done}
use Rattle.lines.proofs.transform_variable.Goals.{else-stride-eq1-via-then-stride-eq1+else-transform_first, else-stride-eq1-via-else-stride-eq1}
use Rattle.lines.proofs.transform_variable.Goals as goal

pub returns-then-leaves_lines-clause-leaves : goal.returns-then-leaves_lines-clause-leaves
returns-then-leaves_lines-clause-leaves g c =
    left-blocked _ c.args.stride c.args.degree c.args.table.now (c.leaves_lines.ensures c.if-leaves_lines.true) c.requires.0
    (λ i. omega (arith, c.type_inv.table i))

pub loop-table-preserved : goal.loop-table-preserved
loop-table-preserved g c =
    blocks_step _ (g.met.T.FourTransform.local c.args.transform (2 ^ 64)) _ _ _ c.loop-table.table c.loop-table.from c.loop-table.invariant c.requires.0 _
    c.transform_block.new.part (omega arith) (omega arith) c.transform_block.ensures

pub returns-clause-leaves : goal.returns-clause-leaves
returns-clause-leaves g c =
    let start : c.else-stride-eq1.table ≡ c.args.table.now = elim c.else-stride-eq1.branch [
      | else-stride-eq1-via-then-stride-eq1+else-transform_first w ↦ w.table-is ∙ w.if-transform_first.ensures
      | else-stride-eq1-via-else-stride-eq1 w ↦ w.table-is
    ] in
    let whole : length c.else-stride-eq1.table % (c.args.stride * suc c.args.degree) ≡ 0 = rw start c.requires.2 in
    rw start at
    (blocks_done _ (g.met.T.FourTransform.local c.args.transform (2 ^ 64)) _ _ _ c.loop-table.table c.loop-table.from c.loop-table.invariant c.requires.0 whole
    (omega arith))
