-- The loop: the first `target` rows are as after the column's step.
use Rattle.std.proofs.Common.{◌≡◌}
use Rattle.meaning.specs.Elimination.{joined}
use Rattle.two_adic_solver.proofs.RowLoops.{Whole, Cleared}
use Rattle.two_adic_solver.proofs.square.FourSystem.clear_column.Given as goal

abbrev pub invariant-loop-target : goal.invariant-loop-target
invariant-loop-target l =
    let f = l.initial.self in
    record {
      used : l.self.used ≡ f.used;
      width : l.self.width.bits ≡ f.width.bits;
      cleared :
          Cleared f.width.bits 4 l.column l.column (Whole f.width.bits 4 l.column l.row f.used (joined f.entries) f.right)
          (joined f.entries) f.right (joined l.self.entries) l.self.right l.target;
    }
