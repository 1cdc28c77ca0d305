use Rattle.std.proofs.Common.{arith}
use Rattle.box_rows.specs.Layouts.{adding_start, adding_step}
use Rattle.box_rows.proofs.layout.add_variable.Goals as goal

pub loop-e-init : goal.loop-e-init
loop-e-init g c = adding_start _ _ _ _ (g.met.N.CellNumbers.zeroth c.args.numbers.now)

pub loop-e-preserved : goal.loop-e-preserved
loop-e-preserved g c =
    let l = c.loop-e in
    let few = c.loop-e-test.true in
    adding_step _ _ _ _ l.table l.from l.e l.invariant (omega (arith, few)) _ c.next_cells.auto.table
    (λ ds t₀. c.next_cells.ensures c.args.d ds t₀ (omega (arith, few)))
