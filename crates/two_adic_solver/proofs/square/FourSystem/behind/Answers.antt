-- The part of a row is one of the rows one behind the other.
use Rattle.std.proofs.Common.{arith}
use Rattle.two_adic_solver.proofs.FixedLaws.{joined-behind}
use Rattle.two_adic_solver.proofs.square.FourSystem.behind.Goals as goal

pub returns : goal.returns
returns c = let p = c.requires in
    let s = c.args.self.now in
    joined-behind s.square c.args.row c.args.column (omega (arith, s.sides.0, p.0)) p.1
