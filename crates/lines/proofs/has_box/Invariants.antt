-- The loop: `size` is the number of cells of the variables before variable i, and below 2^60. A product that overflows is more than any table's length.
use Rattle.lines.proofs.BoxSizes.{Counted}
use Rattle.lines.proofs.has_box.Given as goal

abbrev pub invariant-loop-degree : goal.invariant-loop-degree
invariant-loop-degree l = Counted l.degrees l.size l.degree-index
