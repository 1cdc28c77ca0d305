use Rattle.std.proofs.Common.{◌≡◌, arith}
use Rattle.box_rows.proofs.NextCells.{behind_step}
use Rattle.box_rows.proofs.layout.next_cells.Goals as goal

pub loop-r-preserved : goal.loop-r-preserved
loop-r-preserved g c =
    let l = c.loop-r in
    let p = c.requires in
    let x = c.args.numbers.now in
    let e = c.args.e in
    let laws = g.met.N.CellNumbers in
    behind_step _ (λ first before. g.N.CellNumbers.next x first before (g.N.CellNumbers.part x e)) _ _ e _
    (laws.zeroth x) (λ es. laws.more x es e p.0 c.ranges.e.fits)
    l.table l.r _ l.invariant c.loop-r-test.true p.0 p.1 (omega (arith, p, l.invariant.same)) (rw c.part-own.ensures at c.next.ensures)

pub returns : goal.returns
returns g c =
    let l = c.loop-r in
    let all : l.r ≡ c.args.size = omega (arith, l.invariant.within, c.loop-r-test.false) in
    rw all at l.invariant.filled
