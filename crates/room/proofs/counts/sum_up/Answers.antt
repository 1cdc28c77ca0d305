-- The loop keeps: the counts before place s are written, and the running sum is that of the counts before it.
use Rattle.std.proofs.Common.{sym, ap, ap₂, ◌∙◌, ℕ, ◌+◌, ◌-◌, add-one, arith}
use Rattle.meaning.specs.Tables.{at}
use Rattle.theory.specs.Tables.{filled_start, filled_step, filled_done}
use Rattle.room.proofs.RunningSums.{recent, recent-start, recent_whole, recent_next, leaves-le, recent-le}
use Rattle.room.proofs.counts.sum_up.Goals as goal

pub loop-s-init : goal.loop-s-init
loop-s-init c = record { written = filled_start _ _; goes_along = sym (recent-start c.args.degree (at c.args.counts.now)) }

pub overflow_add-running : goal.overflow_add-running
overflow_add-running c =
    let kept = c.loop-s.invariant in
    let s = c.loop-s.s in
    record { fits = omega (arith, kept.goes_along, recent-le c.args.degree (at c.args.counts.now) 65536 c.requires.1 s, c.requires.1 s, c.ranges.degree) }

pub overflow_sub-running : goal.overflow_sub-running
overflow_sub-running c =
    omega (arith, c.leaving.ensures, c.loop-s.invariant.goes_along, leaves-le c.args.degree (at c.args.counts.now) c.loop-s.s)

pub loop-s-preserved : goal.loop-s-preserved
loop-s-preserved c =
    let d = c.args.degree in
    let counts = c.args.counts.now in
    let s = c.loop-s.s in
    let goes_on =
    ap₂ (λ (r l : ℕ). r + at counts s - l) c.loop-s.invariant.goes_along c.leaving.ensures ∙ recent_next d (at counts) s in
    record {
      written = filled_step _ _ c.loop-s.next s _ c.loop-s.invariant.written (omega arith) (goes_on ∙ recent_whole d (at counts) s);
      goes_along = goes_on ∙ ap (recent d (at counts)) (sym (add-one s));
    }

pub returns : goal.returns
returns c = filled_done _ _ c.loop-s.next c.loop-s.s c.loop-s.invariant.written (omega (arith, c.loop-s.invariant.written.same))
