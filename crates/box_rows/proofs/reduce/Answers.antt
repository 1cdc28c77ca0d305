-- The walk leaves the reduction (`reduced_of`).
use Rattle.box_rows.proofs.Results.{reduced_of}
use Rattle.box_rows.proofs.reduce.Goals as goal

pub returns-in-Some : goal.returns-in-Some
returns-in-Some c =
    let all = c.in-Some.all in
    let k = c.in-Some.ensures in
    let reduced = reduced_of _ c.args.degrees.now c.args.table.now k.1 k.2 k.3 k.4 all.whole c.whole.auto.table c.whole.ensures in
    rw k.0 reduced
