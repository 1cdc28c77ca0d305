-- The loop fills the table.
use Rattle.std.specs.Prelude.{◌%◌, ◌^◌}
use Rattle.meaning.specs.Tables.{at}
use Rattle.theory.specs.Tables.{Filled}
use Rattle.weighted_poly_fit.proofs.fit.Given.fill_right.Given as goal

abbrev pub invariant-loop-i : goal.invariant-loop-i
invariant-loop-i l = Filled (λ n. at l.self.targets.now n % 2 ^ l.self.bitwidth) l.initial.right l.right l.i
