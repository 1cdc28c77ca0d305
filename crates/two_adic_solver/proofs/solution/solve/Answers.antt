-- After the elimination the tables show a state with every column done; where `conclude` accepts it, the number is 0 and the answer has the values.
use Rattle.std.proofs.Common.{refl, arith}
use Rattle.two_adic_solver.proofs.SolverLaws.{finished_accepted}
use Rattle.two_adic_solver.proofs.solution.solve.Goals as goal

pub returns-clause-finished : goal.returns-clause-finished
returns-clause-finished g c =
    let m = g.S.System in
    let s = c.args.system.now in
    let laws = g.met.S.System in
    let columns = laws.same_columns _ _ c.eliminate.ensures.kept in
    let width = laws.same_width _ _ c.eliminate.ensures.kept in
    finished_accepted _ _ (m.entries s) (m.right s) c.eliminate.ensures.shown
    (rw (width, columns) at c.in_default.ensures.concluded) refl (omega (arith, c.requires.sizes))
