-- The loop keeps: the counts before place s are written, and the running sum is that of the counts before it.
use Rattle.std.proofs.Common.{◌≡◌, List, ℕ, suc, ◌-◌, min}
use Rattle.meaning.specs.Tables.{at}
use Rattle.meaning.specs.Sums.{sum}
use Rattle.theory.specs.Tables.{Filled}
use Rattle.room.proofs.RunningSums.{recent}
use Rattle.room.proofs.counts.sum_up.Given as goal

-- the count at place s with the variable
abbrev count-with : ℕ → List ℕ → ℕ → ℕ
count-with d counts s = sum (suc (min d s)) (λ e. at counts (s - e))

abbrev pub invariant-loop-s : goal.invariant-loop-s
invariant-loop-s l =
    record {
      written : Filled (count-with l.degree l.counts) l.initial.next l.next l.s;
      goes_along : l.running ≡ recent l.degree (at l.counts) l.s;
    }
