-- The loop: the passes down to `done`, which is even, are made; the measure is `done`.
use Rattle.std.proofs.Common.{◌≡◌, ◌%◌, ◌≤◌}
use Rattle.moves.proofs.pairs.make_passes.Given as goal

abbrev pub invariant-loop-done : goal.invariant-loop-done
invariant-loop-done g l =
    (l.done ≤ g.P.Pairs.degree l.pairs) × (l.done % 2 ≡ 0) × g.P.Pairs.made l.pairs (g.P.Pairs.degree l.pairs) l.done l.fn.part l.part

abbrev pub decreases-loop-done : goal.decreases-loop-done
decreases-loop-done g l = l.done
