-- The loop: the lines before `from` are moved, the others as they were, and some are left; the measure is the places left.
use Rattle.std.proofs.Common.{◌≡◌, suc, ◌+◌, ◌*◌, ◌%◌, ◌^◌, length, ap, ◌∙◌, le_refl, arith}
use Rattle.theory.specs.Parts.{length_part}
use Rattle.lines.specs.Neighbours.{neighbours_done}
use Rattle.moves.proofs.FirstLines.{lines_put, lines_left, line-left}
use Rattle.moves.proofs.first.move_parts.Goals as goal

pub loop-table-preserved : goal.loop-table-preserved
loop-table-preserved c =
    let l = c.loop-table in
    let next = lines_put (2 ^ 64) c.args.lines.offset (l.from + (c.args.lines.degree + 1) * 16) 16 c.move_lines.new.part l.invariant.1
    (omega arith) (omega (arith, c.loop-table-test.true)) c.move_lines.ensures in
    (omega (arith, next.filled.same, l.invariant.1.filled.same), next)

pub move_lines-requires-2 : goal.move_lines-requires-2
move_lines-requires-2 c =
    let l = c.loop-table in
    let d = c.args.lines.degree in
    let n = length l.table in
    let left = lines_left d l.from l.invariant.1.count n l.invariant.1.place (omega arith) (ap (◌% suc d) l.invariant.1.filled.same ∙ c.requires.2) in
    omega (arith, length_part l.from n l.table (le_refl n), line-left d l.from _ n left l.invariant.0)

pub returns : goal.returns
returns c =
    let l = c.loop-table in
    let d = c.args.lines.degree in
    let n = length l.table in
    let same : n ≡ length c.args.table.now = l.invariant.1.filled.same in
    let left = lines_left d l.from l.invariant.1.count n l.invariant.1.place (omega arith) (ap (◌% suc d) same ∙ c.requires.2) in
    let all = lines_put (2 ^ 64) c.args.lines.offset n _ c.move_lines-2.new.part l.invariant.1 left (le_refl n) c.move_lines-2.ensures in
    neighbours_done _ _ _ _ n all (omega (arith, all.filled.same, same)) c.requires.2 (omega (arith, all.filled.same, same))
