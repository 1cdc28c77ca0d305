-- The walk leaves the sum (`total_of`).
use Rattle.std.proofs.Common.{length, eq-eqb}
use Rattle.box_rows.proofs.Results.{total_of}
use Rattle.box_rows.proofs.sum.Goals as goal

pub returns-in-Some : goal.returns-in-Some
returns-in-Some c =
    let all = c.in-Some.all in
    let k = c.in-Some.ensures in
    let sum = total_of _ c.args.degrees.now c.args.out.now c.args.a.now c.args.b.now k.1 k.2 k.3 k.4 all.whole c.whole.auto.table c.whole.ensures in
    let a = eq-eqb (length c.args.a.now) (length c.args.out.now) c.if-a-out.false in
    let b = eq-eqb (length c.args.b.now) (length c.args.out.now) c.if-b-out.false in
    rw (a, b, k.0) sum
