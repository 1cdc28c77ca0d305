-- The loop: the places before s have their counts, the others are as they were.
use Rattle.std.proofs.Common.{suc, min}
use Rattle.theory.specs.Tables.{Filled}
use Rattle.room.proofs.counts.count_one.Given as goal

abbrev pub invariant-loop-s : goal.invariant-loop-s
invariant-loop-s l = Filled (λ n. suc (min l.degree n)) l.initial.counts l.counts l.s
