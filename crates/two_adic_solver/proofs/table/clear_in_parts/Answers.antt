-- The loop: the parts behind `end` are done, whatever state the tables showed; at first that is none, and the pivot row is 0 behind its last entry that is not.
use Rattle.std.proofs.Common.{◌+◌, ◌*◌, ◌≤◌, length, refl, arith}
use Rattle.theory.specs.Parts.{length_part}
use Rattle.two_adic_solver.proofs.ClearLaws.{row_fits}
use Rattle.two_adic_solver.proofs.PartLaws.{parted_start, parted_step, parted_done}
use Rattle.two_adic_solver.proofs.table.clear_in_parts.Goals as goal

pub loop-end-init : goal.loop-end-init
loop-end-init c =
    let a = c.args in
    let p = c.requires.sizes in
    let row_end : a.row * a.columns + a.columns ≤ length a.entries.now =
    let l : a.columns + 0 ≤ a.columns = omega arith in
    let f = row_fits (length a.right.now) a.columns _ p.0.0 a.row a.columns 0 p.1 l in
    omega (arith, f) in
    let span_end : a.column + c.span.result ≤ a.columns =
    let size = length_part (a.row * a.columns + a.column) (a.row * a.columns + a.columns) a.entries.now row_end in
    omega (arith, c.span.ensures.0, size, c.requires.in_columns.1) in
    (parted_start _ _ _ _ _ _ _ p.1 c.requires.in_columns.1 c.span.result row_end c.requires.in_columns.3 span_end c.span.ensures.1, refl)

pub loop-end-preserved : goal.loop-end-preserved
loop-end-preserved c =
    let p = c.requires.sizes in
    let g = c.part_start-from.ensures in
    let l = c.loop-end in
    let t = c.clear_part in
    let at = c.new-pivot.ensures.place in (
      parted_step _ _ _ _ _ _ _ p.1 c.requires.in_columns.1 _ c.new-pivot.result.twos c.new-pivot.result.inverse refl c.new-pivot.ensures.entry.0
          c.new-pivot.ensures.entry.1 l.entries l.right t.new.entries t.new.right l.side l.end
          c.part_start-from.result l.invariant.0 g.0 g.1 (omega arith) (omega arith) (rw (at.0, at.1, at.2) at t.ensures),
      omega (arith, l.invariant.1),
    )

pub returns : goal.returns
returns c =
    let p = c.requires.sizes in
    let l = c.loop-end in
    parted_done _ _ _ _ _ _ _ p.1 c.requires.in_columns.1 l.entries l.right l.side l.end l.invariant.0 c.loop-end-test.false
