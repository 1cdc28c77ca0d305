-- The loop: the first `row` rows are as after the column's step from `from` on, the others as they were. The copy of the pivot row's part stays that of the
-- matrix, since the pivot row, which is marked, is not altered.
use Rattle.std.proofs.Common.{◌≡◌, ℕ, ◌+◌, ◌-◌, ◌*◌, ◌<◌, ◌≤◌, ◌++◌, length, take, drop, refl, arith}
use Rattle.meaning.specs.Tables.{at}
use Rattle.two_adic_solver.proofs.ClearLaws.{row_fits, row_used}
use Rattle.two_adic_solver.proofs.RowLaws.{copied_length, copied_part}
use Rattle.two_adic_solver.proofs.RowLoops.{part_step, part_done}
use Rattle.two_adic_solver.proofs.table.clear_part.Goals as goal
use Rattle.two_adic_solver.proofs.table.clear_part.Goals.{then-not-used-row, else-not-used-row}

pub loop-row-preserved : goal.loop-row-preserved
loop-row-preserved c =
    let a = c.args in
    let p = c.requires.sizes in
    let q = c.requires.in_columns in
    let b = c.loop-row in
    let count = a.end - a.from in
    let held = c.copy.new.to ++ drop count a.room.now in
    let part_end : a.pivot.row * a.columns + a.end ≤ length a.entries.now =
    let l : a.end + 0 ≤ a.columns = omega (arith, q.3) in
    let f = row_fits (length a.right.now) a.columns _ p.0.0 a.pivot.row a.end 0 p.1 l in
    omega (arith, f) in
    let end_eq : a.pivot.row * a.columns + a.from + count ≡ a.pivot.row * a.columns + a.end = omega (arith, q.2) in
    let held_length : length (take count held) ≡ count =
    copied_length _ _ count a.entries.now a.room.now c.copy.new.to end_eq part_end q.4 c.copy.ensures in
    let held_part : (k : ℕ) → k < count → at (take count held) k ≡ at a.entries.now (a.pivot.row * a.columns + a.from + k) =
    copied_part _ _ count a.entries.now a.room.now c.copy.new.to end_eq part_end q.4 c.copy.ensures in
    let row_lt : b.row < length b.right = omega arith in
    let step = part_step _ _ _ _ _ _ _ _ _ _ _ _ p.1 q.1 q.2 q.3 (take count held) held_length held_part b.entries b.right in
    elim c.if-not-used-row.branch [
      | then-not-used-row w ↦
          let n = w.clear_row.new in
          rw (w.entries-is, w.right-is)
          (step n.entries n.right b.row b.invariant row_lt (omega arith) (omega arith)
          (λ u e part g r small. rw w.if-not-used-row.true (w.clear_row.ensures u e part g r small)))
      | else-not-used-row w ↦
          rw (w.entries-is, w.right-is)
          (step b.entries b.right b.row b.invariant row_lt refl refl (λ u e part g r small. row_used _ _ _ _ _ _ u _ _ _ _ g _ w.if-not-used-row.false))
    ]

pub returns : goal.returns
returns c =
    let q = c.requires.in_columns in
    let b = c.loop-row in
    let done : length b.right ≤ b.row = omega arith in
    λ st n cl et ev h.
    part_done _ _ _ _ _ _ _ _ _ _ _ _ c.requires.sizes.1 q.1 q.2 b.entries b.right b.row b.invariant done st n
    (record { clearing = cl; twos_eq = et; inverse_eq = ev; behind = h })
